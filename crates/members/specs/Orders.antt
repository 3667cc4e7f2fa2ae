-- How the layers change what lies below. Assumes nothing.
use Rattle.std.specs.Prelude.{List}
use Rattle.members.specs.declared.flat_roll.MemberRow.{MemberRow}
use Rattle.members.specs.declared.leaver_table.Leaver.{Leaver}
use Rattle.members.specs.Leavers.{without_noted}
use Rattle.members.specs.Pairs.{Pairs, LacksNone}
use Rattle.members.specs.Tokens.{with_presented}

-- a token layer takes nothing away, a leavers layer adds nothing, and over a list that lacks nothing neither lacks anything
pub record LayersKeepOrder : Type 0 where
  pub adds : (held : List MemberRow) (below : Pairs) → LacksNone below (with_presented held below)
  pub takes : (xs : List Leaver) (below : Pairs) → LacksNone (without_noted xs below) below
  pub tokens : (held : List MemberRow) (p q : Pairs) → LacksNone p q → LacksNone (with_presented held p) (with_presented held q)
  pub leavers : (xs : List Leaver) (p q : Pairs) → LacksNone p q → LacksNone (without_noted xs p) (without_noted xs q)

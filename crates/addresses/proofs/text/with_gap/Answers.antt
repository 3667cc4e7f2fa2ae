use Rattle.std.proofs.Common.{◌∙◌}
use Rattle.notes.specs.declared.family.Family.TheVariants.{Six}
use Rattle.addresses.specs.Addresses.{side}
use Rattle.addresses.specs.Rows.{row_value, empty}
use Rattle.addresses.proofs.Fills.{joined_is}
use Rattle.addresses.proofs.Rows.{of_family}
use Rattle.addresses.proofs.text.with_gap.Goals as goal

pub fill-requires : goal.fill-requires
fill-requires c = (
  of_family (empty Six) (side c.args.front.now) (row_value c.in_ok-first.first) c.in_ok-first.ensures,
  of_family (empty Six) (side c.args.back.now) (row_value c.in_ok-last.last) c.in_ok-last.ensures,
)

pub returns : goal.returns
returns c = c.fill.ensures ∙ joined_is (side c.args.front.now) (side c.args.back.now) _ _ c.in_ok-first.ensures c.in_ok-last.ensures

-- What a constraint covers it admits: child types and contexts. Assumes nothing.
use Rattle.std.specs.Prelude.{◌≡◌, ℕ, true, Some, Option, ◌==◌}
use Rattle.std.proofs.Common.{◌∙◌, eq-eqb, eqb-true}
use Rattle.calendar.specs.declared.civil.CivilTime.{CivilTime}
use Rattle.notes.specs.declared.block.Address.{Address}
use Rattle.notes.specs.declared.country.Country.{Country}
use Rattle.notes.specs.Windows.{window_admits, window_covers}
use Rattle.notes.specs.Blocks.{block_admits, block_covers}
use Rattle.notes.specs.Countries.{country_same}
use Rattle.notes.specs.Constraints.{list_admits_option, list_covers}
use Rattle.notes.specs.Contexts.{ContextValue, context_admits, context_covers}
use Rattle.texts.proofs.Bools.{both_true, and_true}
use Rattle.notes.specs.ConstraintsLemmas.{list_sound_option}
use Rattle.notes.specs.WindowsLemmas.{window_sound}
use Rattle.notes.specs.BlocksLemmas.{block_sound}

-- equal to an equal
pub type_sound : (a b v : ℕ) → (a == b) ≡ true → (b == v) ≡ true → (a == v) ≡ true
type_sound a b v c d = eq-eqb a v (eqb-true a b c ∙ eqb-true b v d)

country_sound : (a b v : Country) → country_same a b ≡ true → country_same b v ≡ true → country_same a v ≡ true
country_sound a b v c d =
    let c1 = both_true (a.first == b.first) (a.second == b.second) c in
    let d1 = both_true (b.first == v.first) (b.second == v.second) d in
    and_true _ _ (type_sound a.first b.first v.first c1.0 d1.0) (type_sound a.second b.second v.second c1.1 d1.1)

pub context_sound :
    (c d : ContextValue) (time : CivilTime) (address : Option Address) (country : Option Country)
    → context_covers c d ≡ true → context_admits d time address country ≡ true → context_admits c time address country ≡ true
context_sound c d time address country h a =
    let h1 = both_true (list_covers window_covers c.windows d.windows) _ h in
    let h2 = both_true (list_covers block_covers c.blocks d.blocks) (list_covers country_same c.countries d.countries) h1.1 in
    let a1 = both_true (list_admits_option window_admits d.windows (Some time)) _ a in
    let a2 = both_true (list_admits_option block_admits d.blocks address) (list_admits_option country_same d.countries country) a1.1 in
    and_true _ _ (list_sound_option window_admits window_covers window_sound c.windows d.windows (Some time) h1.0 a1.0)
    (and_true _ _ (list_sound_option block_admits block_covers block_sound c.blocks d.blocks address h2.0 a2.0)
    (list_sound_option country_same country_same country_sound c.countries d.countries country h2.1 a2.1))

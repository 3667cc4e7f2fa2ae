-- The text that each value holds. Assumes nothing.
use Rattle.std.specs.Prelude.{ℕ, List}
use Rattle.texts.specs.Few.{listed}
use Rattle.texts.specs.declared.full_form.FullForm.{FullForm}
use Rattle.texts.specs.declared.text.Text.{Text}

abbrev pub text_of : {G : Type 0} {N : ℕ} {g : _} → Text G N g → List ℕ
text_of x = listed x.bytes

abbrev pub full_form_text : FullForm → List ℕ
full_form_text x = listed x.bytes

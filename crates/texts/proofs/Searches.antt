-- Searches through a list: how a loop that tests its items one by one comes to its answer. Assumes nothing.
use Rattle.std.proofs.Common.{◌≡◌, ℕ, suc, ◌+◌, ◌<◌, Bool, true, false, ◌&&◌, ◌||◌, eqb, List, [], ◌∷◌, length, get_or, drop, sym, refl, ap, ◌∙◌, arith, ne_eqb}
use Rattle.std.proofs.lemmas.List.{at_drop_more}
use Rattle.std.specs.List.{list_any, list_all}
use Rattle.texts.specs.Lists.{none}

some_step : {X : Type 0} (p : X → Bool) (xs : List X) (i : ℕ) (x : X) → i < length xs → x ≡ get_or xs i x → list_any p (drop i xs) ≡ (p x || list_any p (drop (i + 1) xs))
some_step p xs i x h e = at_drop_more (list_any p) xs i x h ∙ ap (λ y. p y || list_any p (drop (i + 1) xs)) (sym e)

-- one step of a search
pub some_found : {X : Type 0} (p : X → Bool) (xs : List X) (i : ℕ) (x : X) → i < length xs → x ≡ get_or xs i x → list_any p (drop i xs) ≡ list_any p xs → p x ≡ true → true ≡ list_any p xs
some_found p xs i x h e inv t = sym (sym inv ∙ some_step p xs i x h e ∙ ap (λ b. b || list_any p (drop (i + 1) xs)) t)

pub some_on : {X : Type 0} (p : X → Bool) (xs : List X) (i : ℕ) (x : X) → i < length xs → x ≡ get_or xs i x → list_any p (drop i xs) ≡ list_any p xs → p x ≡ false → list_any p (drop (i + 1) xs) ≡ list_any p xs
some_on p xs i x h e inv t = sym (some_step p xs i x h e ∙ ap (λ b. b || list_any p (drop (i + 1) xs)) t) ∙ inv

each_step : {X : Type 0} (p : X → Bool) (xs : List X) (i : ℕ) (x : X) → i < length xs → x ≡ get_or xs i x → list_all p (drop i xs) ≡ (p x && list_all p (drop (i + 1) xs))
each_step p xs i x h e = at_drop_more (list_all p) xs i x h ∙ ap (λ y. p y && list_all p (drop (i + 1) xs)) (sym e)

pub each_failed : {X : Type 0} (p : X → Bool) (xs : List X) (i : ℕ) (x : X) → i < length xs → x ≡ get_or xs i x → list_all p (drop i xs) ≡ list_all p xs → p x ≡ false → false ≡ list_all p xs
each_failed p xs i x h e inv t = sym (sym inv ∙ each_step p xs i x h e ∙ ap (λ b. b && list_all p (drop (i + 1) xs)) t)

pub each_on : {X : Type 0} (p : X → Bool) (xs : List X) (i : ℕ) (x : X) → i < length xs → x ≡ get_or xs i x → list_all p (drop i xs) ≡ list_all p xs → p x ≡ true → list_all p (drop (i + 1) xs) ≡ list_all p xs
each_on p xs i x h e inv t = sym (each_step p xs i x h e ∙ ap (λ b. b && list_all p (drop (i + 1) xs)) t) ∙ inv

pub none_is : {X : Type 0} (xs : List X) → eqb (length xs) 0 ≡ none xs
none_is [] = refl
none_is (x ∷ xs) = ne_eqb (suc (length xs)) 0 (λ e. omega arith)

-- Zero groups between the groups before and those after. Assumes nothing.
use Rattle.std.proofs.Common.{◌≡◌, ℕ, zero, suc, ◌+◌, ◌-◌, ◌*◌, ◌%◌, ◌^◌, ◌<◌, ◌≤◌, Bool, true, false, cond, ltb, List, [], ◌∷◌, ◌++◌, length, replicate, Some, None, Option, sym, refl, ap, ◌∙◌, subst, lt_of_lt_of_le, add-zero, mul_assoc, add-mul, pow-suc, arith, pow-add}
use native.Mathlib.Nat.{pow-zero, pow-succ', pow-le-pow_right}
use lib.Arith.{digits_lt}
use Rattle.std.specs.Int.Digits.{number_from_digits, number_from_digits_after}
use Rattle.std.proofs.lemmas.Nat.{shl_whole}
use Rattle.std.proofs.lemmas.Int.Digits.{number_after_append}
use Rattle.std.proofs.lemmas.List.{length-append, length-replicate}
use Rattle.std.proofs.lemmas.Bool.{eq-eqb, ltb-true, cond-false}
use Rattle.notes.specs.declared.block.Address.{Address}
use Rattle.notes.specs.declared.family.Family.TheVariants.{Six}
use Rattle.addresses.specs.declared.row.Row.{Row}
use Rattle.addresses.specs.Addresses.{address_from, filled, joined}
use Rattle.addresses.specs.Rows.{RowValue, empty, row_with}
use Rattle.addresses.proofs.Rows.{counted}

pub number_after_is : (b n : ℕ) (ns : List ℕ) → number_from_digits_after b n ns ≡ n * b ^ length ns + number_from_digits b ns
number_after_is b n [] = rw pow-zero (omega arith)
number_after_is b n (d ∷ ds) =
    let B = b ^ length ds in
    let here : number_from_digits_after b (n * b + d) ds ≡ (n * b + d) * B + number_from_digits b ds = number_after_is b (n * b + d) ds in
    let none : 0 * b + d ≡ d = omega arith in
    let rest : number_from_digits_after b (0 * b + d) ds ≡ d * B + number_from_digits b ds = ap (λ m. number_from_digits_after b m ds) none ∙ number_after_is b d ds in
    let front : n * b ^ suc (length ds) ≡ n * b * B = ap (λ m. n * m) (pow-succ' b (length ds)) ∙ sym (mul_assoc n b B) in
    let split : (n * b + d) * B ≡ n * b * B + d * B = add-mul (n * b) d B in
    omega (arith, here, rest, front, split)

zeros : (b k : ℕ) → number_from_digits b (replicate k 0) ≡ 0
zeros b zero = refl
zeros b (suc k) =
    let none : 0 * b + 0 ≡ 0 = omega arith in
    ap (λ m. number_from_digits_after b m (replicate k 0)) none ∙ zeros b k

pub filled_number : (b k m : ℕ) (ns ms : List ℕ) → m ≡ k + length ms → number_from_digits b (ns ++ (replicate k 0 ++ ms)) ≡ number_from_digits b ns * b ^ m + number_from_digits b ms
filled_number b k m ns ms e =
    let F = number_from_digits b ns in
    let M = length ms in
    let zero-filled : number_from_digits_after b F (replicate k 0) ≡ F * b ^ k = number_after_is b F (replicate k 0) ∙ (λ i. F * b ^ length-replicate {A = ℕ} k 0 i + zeros b k i) ∙ add-zero (F * b ^ k) in
    let powers : F * b ^ k * b ^ M ≡ F * b ^ m = mul_assoc F (b ^ k) (b ^ M) ∙ ap (λ x. F * x) (sym (pow-add b k M) ∙ ap (λ x. b ^ x) (sym e)) in
    number_after_append b 0 ns (replicate k 0 ++ ms)
    ∙ number_after_append b F (replicate k 0) ms
    ∙ ap (λ x. number_from_digits_after b x ms) zero-filled
    ∙ number_after_is b (F * b ^ k) ms
    ∙ ap (λ x. x + number_from_digits b ms) powers

pow_groups : (k : ℕ) → 2 ^ (16 * k) ≡ 65536 ^ k
pow_groups zero = refl
pow_groups (suc k) =
    let e : 16 * suc k ≡ 16 * k + 16 = omega arith in
    ap (λ x. 2 ^ x) e ∙ pow-add 2 (16 * k) 16 ∙ ap (λ x. x * 65536) (pow_groups k) ∙ sym (pow-suc 65536 k)

-- the first groups moved to their place lose nothing
pub leading_is : (row : Row) → row.family ≡ Six → (row.bits * 2 ^ (16 * (8 - row.count))) % 2 ^ 128 ≡ row.bits * 65536 ^ (8 - row.count)
leading_is row six =
    let few : row.count ≤ 8 = rw six at row.few in
    let small : row.bits < 2 ^ (16 * row.count) = rw pow_groups (rw six at row.small) in
    shl_whole row.bits (16 * row.count) (16 * (8 - row.count)) 128 small (omega arith)
    ∙ ap (λ x. row.bits * x) (pow_groups (8 - row.count))

pub joined_fits : (first last : Row) → first.family ≡ Six → last.family ≡ Six → first.count + last.count < 8 → first.bits * 65536 ^ (8 - first.count) + last.bits < 2 ^ 128
joined_fits first last r s few =
    let small : first.bits < 65536 ^ first.count = rw r at first.small in
    let back : last.bits < 65536 ^ (8 - first.count) = lt_of_lt_of_le (rw s at last.small) (pow-le-pow_right (omega arith) (omega arith)) in
    let eight : first.count + (8 - first.count) ≡ 8 = omega arith in
    let whole : 65536 ^ first.count * 65536 ^ (8 - first.count) ≡ 2 ^ 128 = sym (pow-add 65536 first.count (8 - first.count)) ∙ ap (λ x. 65536 ^ x) eight in
    let P : ℕ → Type 0 = λ x. first.bits * 65536 ^ (8 - first.count) + last.bits < x in
    subst P whole (digits_lt small back)

abbrev join : ℕ → ℕ → ℕ → ℕ → Option Address
join c b d a = cond (ltb (c + d) 8) (Some (record { family = Six; bits = b * 65536 ^ (8 - c) + a })) None

join_lists : (ns ms : List ℕ) (t : Bool) → ltb (length ns + length ms) 8 ≡ t
    → join (length ns) (number_from_digits 65536 ns) (length ms) (number_from_digits 65536 ms) ≡ address_from Six (filled (Some ns) (Some ms))
join_lists ns ms true e =
    let few = ltb-true _ _ e in
    let behind : 8 - length ns ≡ (8 - (length ns + length ms)) + length ms = omega (arith, few) in
    let bits = filled_number 65536 (8 - (length ns + length ms)) (8 - length ns) ns ms behind in
    let size : length (ns ++ (replicate (8 - (length ns + length ms)) 0 ++ ms)) ≡ 8 = simp (length-append, length-replicate) (omega (arith, few)) in
    rw (e, eq-eqb _ _ size, bits)
join_lists ns ms false e =
    cond-false (ltb (length ns + length ms) 8) _ _ e
    ∙ ap (address_from Six) (sym (cond-false (ltb (length ns + length ms) 8) _ None e))

-- the rows joined are the address of the groups, filled
pub joined_is : (before after : Option (List ℕ)) (first last : RowValue) → Some first ≡ row_with (empty Six) before → Some last ≡ row_with (empty Six) after
    → joined first last ≡ address_from Six (filled before after)
joined_is before after first last d e =
    let x = counted Six before first d in
    let y = counted Six after last e in
    (λ i. join (x.count i) (x.bits i) (y.count i) (y.bits i))
    ∙ join_lists x.parts y.parts _ refl
    ∙ (λ i. address_from Six (filled (sym x.there i) (sym y.there i)))

use Rattle.std.proofs.Common.{◌≡◌, ℕ, ◌+◌, ◌*◌, ◌/◌, ◌<◌, length, get_or, set, ◌∙◌, ne_of_lt, arith, below_more}
use Rattle.std.proofs.lemmas.List.{get_or-set_same, get_or-set_other, get_or-take, length-take-le}
use Rattle.std.proofs.lemmas.Bool.Decides.{nat_tests}
use Rattle.journal.specs.Notes.{Pair}
use Rattle.journal.proofs.Pairs.{high, low}
use Rattle.journal.proofs.note.bytes.Goals as goal

pub returns-in_err-space : goal.returns-in_err-space
returns-in_err-space c =
    let word = c.args.word.now in
    let i = c.loop-i.i in
    let front = c.as_chunks.ensures.front in
    let n = length word / 2 in
    let inside : i < n = omega arith in
    rw c.from_residual.ensures
    (λ bytes h.
    let p = h.pairs i (omega (arith, h.size)) in
    c.in_err-space.ensures (rw (front, high word n i inside, low word n i inside) (p.0, p.1)))

pub loop-i-preserved : goal.loop-i-preserved
loop-i-preserved c =
    let word = c.args.word.now in
    let before = c.loop-i.space in
    let i = c.loop-i.i in
    let b = c.in_ok-space.field-0 in
    let n = length word / 2 in
    let inside : i < n = omega arith in
    let P : ℕ → Type 0 = λ k. Pair (get_or word (2 * k) 0) (get_or word (2 * k + 1) 0) (get_or (set before i b) k 0) in
    let told = rw (c.as_chunks.ensures.front, high word n i inside, low word n i inside) at c.in_ok-space.ensures in
    let fits : i < length before = omega arith in
    below_more P i
    (λ k h. let was = c.loop-i.invariant k h in (was.0, was.1, get_or-set_other before i k b 0 (ne_of_lt h) ∙ was.2))
    (told.0.0, told.0.1, get_or-set_same before i b 0 fits ∙ told.1)

pub returns : goal.returns
returns c =
    let size = length c.as_chunks.result.0.now in
    let some : 0 < size = grind (arith, nat_tests) in
    let even : length c.as_chunks.result.1.now ≡ 0 = grind (arith, nat_tests) in
    let all = length-take-le size c.loop-i.space (omega arith) in
    record {
      some = omega (arith, all);
      size = omega (arith, all);
      pairs = λ k h.
          let was = c.loop-i.invariant k (omega (arith, all)) in
          let inside : k < size = omega (arith, all) in
          (was.0, was.1, get_or-take size c.loop-i.space k 0 inside ∙ was.2);
    }

use Rattle.std.proofs.Common.{sym, ◌∙◌, inl, inr, arith, rules}
use Rattle.std.proofs.lemmas.List.{drop_more, drop_all}
use Rattle.std.proofs.lemmas.Bool.{eqb-true}
use Rattle.addresses.proofs.Digits.{more, next_fits, small_fits, none_empty, none_long, none_other, all_read}
use Rattle.addresses.proofs.numeral.numeral.Goals as goal

pub returns-then-is_empty : goal.returns-then-is_empty
returns-then-is_empty c =
    elim c.then-is_empty.either [
      | inl e ↦ record { number = none_empty _ _ _ (omega (arith, eqb-true _ _ (sym c.is_empty.ensures ∙ e))); small = tt }
      | inr w ↦ record { number = none_long _ _ _ w.1; small = tt }
    ]

pub overflow_mul-number : goal.overflow_mul-number
overflow_mul-number c =
    omega (arith, next_fits c.args.base c.loop-byte.number c.loop-byte.byte-index 0 (omega arith) c.loop-byte.invariant.small (omega arith) (omega arith))

pub overflow_add-number : goal.overflow_add-number
overflow_add-number c =
    let told = c.in_ok-number.ensures in
    omega (arith, told.1, next_fits c.args.base c.loop-byte.number c.loop-byte.byte-index _ (omega arith) c.loop-byte.invariant.small told.0 (omega arith))

pub returns-in_err-number : goal.returns-in_err-number
returns-in_err-number c =
    let inv = rw (drop_more c.args.piece.now c.loop-byte.byte-index 0 c.loop-byte-test.true) at c.loop-byte.invariant in
    rw c.from_residual.ensures (record { number = none_other _ _ _ _ _ _ _ inv c.in_err-number.ensures; small = tt })

pub loop-byte-preserved : goal.loop-byte-preserved
loop-byte-preserved c =
    let inv = rw (drop_more c.args.piece.now c.loop-byte.byte-index 0 c.loop-byte-test.true) at c.loop-byte.invariant in
    let told = c.in_ok-number.ensures in
    rw told.1 (more _ _ _ _ _ _ inv (omega arith) told.0)

pub returns : goal.returns
returns c =
    let inv = rw (drop_all c.loop-byte.byte-index c.args.piece.now c.loop-byte-test.false) at c.loop-byte.invariant in
    record {
      number = all_read _ _ _ _ _ inv (search rules) c.if-piece-most.false;
      small = small_fits _ _ c.loop-byte.invariant.small (omega arith);
    }

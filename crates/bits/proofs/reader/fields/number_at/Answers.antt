use Rattle.std.proofs.Common.{◌≡◌, ◌+◌, ◌-◌, ◌*◌, ◌%◌, ◌^◌, ◌<◌, ◌≤◌, take, drop, sym, ap, ◌∙◌, lt_of_lt_of_le, mod-eq_of_lt, arith, pow_mono}
use Rattle.std.specs.Int.Digits.{number_from_digits}
use Rattle.bits.specs.Digits.{bits}
use Rattle.bits.proofs.ByteLaws.{number_run, number_more, number_below}
use Rattle.bits.proofs.reader.fields.number_at.Goals as goal

-- the number with one run more, and that it is a field of at most 128 bits
module _ (c : goal.After-run_of) where
  read : c.loop-left.v * 2 ^ c.min-n.result + c.run_of.result ≡ number_from_digits 2 (take (c.args.width - (c.loop-left.left - c.min-n.result)) (drop c.args.start (bits c.args.src.now)))
  read =
      let src = c.args.src.now in
      let start = c.args.start in
      let n = c.min-n.result in
      let i = c.args.width - c.loop-left.left in
      let next : i + n ≡ c.args.width - (c.loop-left.left - n) = omega arith in
      let run = number_run src c.loop-left.byte c.loop-left.used n (start + i) (omega arith) (omega arith) c.loop-left.invariant.2 in
      number_more src start i n c.loop-left.v _ (omega arith) c.loop-left.invariant.3 (run ∙ sym c.run_of.ensures)
      ∙ ap (λ k. number_from_digits 2 (take k (drop start (bits src)))) next

  fits : c.loop-left.v * 2 ^ c.min-n.result + c.run_of.result < 2 ^ 128
  fits =
      let k = c.args.width - (c.loop-left.left - c.min-n.result) in
      let few : k ≤ 128 = omega arith in
      rw read (lt_of_lt_of_le (number_below c.args.src.now c.args.start k) (pow_mono few))

  shift : (c.loop-left.v * 2 ^ c.min-n.result) % 2 ^ 128 ≡ c.loop-left.v * 2 ^ c.min-n.result
  shift = mod-eq_of_lt (omega (arith, fits))

pub overflow_add-v : goal.overflow_add-v
overflow_add-v c = record { fits = omega (arith, shift c, fits c) }

pub loop-left-preserved : goal.loop-left-preserved
loop-left-preserved c = (omega arith, omega arith, omega arith, ap (λ k. k + c.run_of.result) (shift c) ∙ read c)

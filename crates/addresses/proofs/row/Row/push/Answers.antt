use Rattle.std.proofs.Common.{arith, rules}
use Rattle.addresses.specs.Rows.{row_value}
use Rattle.addresses.proofs.Rows.{base_pos, next_fits, next_small, pushed, not_pushed, full}
use Rattle.addresses.proofs.row.Row.push.Goals as goal

pub returns-then-is_full : goal.returns-then-is_full
returns-then-is_full c = full (row_value c.args.self) _ (search rules)

pub returns-in_err-number : goal.returns-in_err-number
returns-in_err-number c = rw c.from_residual.ensures (not_pushed (row_value c.args.self) _ c.in_err-number.ensures.part)

pub overflow_mul-result : goal.overflow_mul-result
overflow_mul-result c =
    rw c.base.ensures
    (omega (arith, next_fits c.args.self.family c.args.self.bits c.args.self.count 0 c.args.self.small (search rules) (base_pos c.args.self.family)))

pub overflow_add-result : goal.overflow_add-result
overflow_add-result c =
    rw (c.base.ensures, c.from.ensures)
    (omega (arith, next_fits c.args.self.family c.args.self.bits c.args.self.count c.in_ok-number.number c.args.self.small (search rules) c.in_ok-number.ensures.small))

pub invariant_of-result : goal.invariant_of-result
invariant_of-result c =
    let told = c.in_ok-number.ensures in
    record {
      few = search rules;
      small = rw (c.base.ensures, c.from.ensures) (next_small c.args.self.family c.args.self.bits c.args.self.count _ c.args.self.small told.small);
    }

pub returns : goal.returns
returns c =
    rw (c.base.ensures, c.from.ensures) (pushed (row_value c.args.self) _ _ c.in_ok-number.ensures.part (search rules))

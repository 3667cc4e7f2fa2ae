use Rattle.std.proofs.Common.{◌≡◌, ◌-◌, min, length, take, vec_items, ap, ◌∙◌, arith}
use Rattle.register.proofs.Parts.{take_min}
use Rattle.register.proofs.register.Register.used_rows.Goals as goal

pub returns : goal.returns
returns c =
    let rows = c.args.self.now.rows in
    let size : c.min-n.result - 0 ≡ min 256 (length (vec_items rows)) = omega (arith, c.min-n.ensures, c.len.ensures, rows.ok.0) in
    ap (take (c.min-n.result - 0)) c.deref.ensures.value ∙ ap (λ n. take n (vec_items rows)) size ∙ take_min 256 (vec_items rows)

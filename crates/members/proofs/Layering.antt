-- Layers and the order of member lists. Assumes nothing.
use Rattle.std.proofs.lemmas.Bool.{and_parts, and_from, or_cases, or_left, or_right}
use Rattle.std.proofs.Common.{⊎_elim}
use Rattle.members.specs.Orders.{LayersKeepOrder}

pub layers_keep_order : LayersKeepOrder
layers_keep_order =
    record {
      adds = λ held below i s e. or_right _ _ e;
      takes = λ xs below i s e. (and_parts _ _ e).0;
      tokens = λ held p q le i s e. ⊎_elim (λ t. or_left _ _ t) (λ t. or_right _ _ (le i s t)) (or_cases _ _ e);
      leavers = λ xs p q le i s e. let h = and_parts _ _ e in and_from _ _ (le i s h.0) h.1;
    }

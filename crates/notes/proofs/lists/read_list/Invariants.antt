use Rattle.std.proofs.Common.{◌≡◌, map, length}
use Rattle.bits.specs.Reader.{bytes, source, place}
use Rattle.texts.specs.Few.{listed}
use Rattle.notes.specs.ReadingsLemmas.{Sofar}
use Rattle.notes.proofs.lists.read_list.Given as goal

abbrev pub invariant-loop-i : goal.invariant-loop-i
invariant-loop-i g l =
    record {
      kept : bytes l.r ≡ bytes l.initial.r;
      size : length (listed l.items) ≡ l._i;
      begins : g.I.Item.begins (place l.r);
      sofar : Sofar g.I.Item.reads (source l.initial.r) l.n (place l.initial.r) l._i (map (g.I.Item.meant (bytes l.initial.r)) (listed l.items)) (place l.r);
    }

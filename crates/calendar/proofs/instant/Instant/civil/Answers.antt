use Rattle.std.proofs.Common.{◌≡◌, ◌≤◌, sym, ◌∙◌, subst, rules}
use Rattle.calendar.specs.Civil.{civil_of, last_second, Reads}
use Rattle.calendar.proofs.Readings.{every_valid_in_range, only_reading, reads_of}
use Rattle.calendar.proofs.instant.Instant.civil.Goals as goal

pub returns : goal.returns
returns c =
    let value : c.args.self.now.civil ≡ civil_of c.args.self.now.seconds = search rules in
    let within : c.args.self.now.seconds ≤ last_second = search rules in
    let reads : Reads c.args.self.now.seconds c.args.self.now.civil =
    subst (Reads c.args.self.now.seconds) (sym value) (reads_of c.args.self.now.seconds within) in
    record {
      value = value;
      reads = reads;
      only = λ d r. only_reading c.args.self.now.seconds d r ∙ sym value;
      instant = λ s r. sym r.same ∙ reads.same;
      every = every_valid_in_range;
    }

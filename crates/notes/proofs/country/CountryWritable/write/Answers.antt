use Rattle.std.proofs.Common.{arith}
use Rattle.notes.proofs.Writings.{wrote_then}
use Rattle.notes.specs.CountriesLemmas.{country_long}
use Rattle.notes.proofs.country.CountryWritable.write.Goals as goal

pub returns : goal.returns
returns c = wrote_then (omega (arith, country_long c.args.self.now)) c.put.ensures c.put-2.ensures

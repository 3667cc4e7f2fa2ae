-- Requests. Assumes nothing.
use Rattle.std.specs.Prelude.{ℕ, Bool, List, Option}
use Rattle.texts.specs.TextValues.{text_of}
use Rattle.notes.specs.declared.block.Address.{Address}
use Rattle.notes.specs.declared.country.Country.{Country}
use Rattle.notes.specs.declared.operation.Operation.{Operation}
use Rattle.admission.specs.declared.request.CheckedRequest.{CheckedRequest}

-- what a request says to a rule; the instant counts seconds
pub record RequestValue : Type 0 where
  pub identity : List ℕ
  pub authenticated : Bool
  pub operation : Operation
  pub child_type_of : Option ℕ
  pub instant : ℕ
  pub address : Option Address
  pub country : Option Country

abbrev pub request_of : CheckedRequest → RequestValue
request_of q = record {
  identity = text_of q.identity;
  authenticated = q.authenticated;
  operation = q.operation;
  child_type_of = q.child_type;
  instant = q.circumstances.instant.seconds;
  address = q.circumstances.address;
  country = q.circumstances.country;
}

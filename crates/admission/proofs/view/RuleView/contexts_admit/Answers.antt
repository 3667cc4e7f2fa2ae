use Rattle.std.proofs.Common.{Some, sym, ap, ◌∙◌}
use Rattle.notes.specs.Constraints.{list_admits_option}
use Rattle.notes.specs.Contexts.{context_of, context_admits}
use Rattle.texts.specs.Few.{listed}
use Rattle.notes.specs.ConstraintsLemmas.{list_admits_option_map}
use Rattle.admission.specs.Admitting.{in_context}
use Rattle.admission.specs.Requests.{request_of}
use Rattle.admission.proofs.view.RuleView.contexts_admit.Goals as goal

pub returns : goal.returns
unfolding list_admits_option
returns c =
    let q = c.args.request.now in
    let v = q.circumstances in
    let xs = listed c.args.self.now.parts.now.contexts in
    c.list_admits.ensures.offered ∙ ap (λ l. list_admits_option (λ x v. context_admits (context_of x) v.instant.civil v.address v.country) l (Some v)) c.contexts.ensures
    ∙ ap (λ time. list_admits_option (λ x (_ : Unit {0}). context_admits (context_of x) time v.address v.country) xs (Some tt)) v.instant.reads
    ∙ sym (list_admits_option_map in_context context_of xs (Some (request_of q)))

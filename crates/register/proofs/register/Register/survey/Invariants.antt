use Rattle.std.proofs.Common.{◌≡◌, take}
use Rattle.texts.specs.TextValues.{text_of}
use Rattle.admission.specs.Requests.{request_of}
use Rattle.register.specs.Answers.{Decision, verdict_given}
use Rattle.register.specs.Requests.{passes}
use Rattle.register.specs.Tables.{tables, is_linked, used_rows}
use Rattle.register.proofs.Surveys.{among}
use Rattle.register.proofs.register.Register.survey.Given as goal

abbrev pub invariant-loop-row : goal.invariant-loop-row
invariant-loop-row g l =
    (l.row-items ≡ used_rows (tables l.self))
    × Decision (among (take l.row-index l.row-items)) (passes (text_of l.self.home) (is_linked (tables l.self)) l.target (g.L.MemberList.pairs l.members) (request_of l.request)) (verdict_given l.verdict)

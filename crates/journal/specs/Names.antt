-- How the calls are named. Assumes nothing.
use Rattle.std.specs.Prelude.{◌≡◌, ◌≢◌, ℕ, List, codes, Result, MatchResult}
use Rattle.journal.specs.declared.name.CallName.{CallName}
use Rattle.journal.specs.declared.name.UnknownName.{UnknownName}
use Rattle.journal.specs.declared.name.CallName.TheVariants.{Open, Add, Withdraw, Link, Unlink, Member, Present, Clear, Leave, Readmit, Judge, Role, Request, Read, Write, Cover, When}

abbrev pub spelling : CallName → List ℕ
spelling Open = codes "open"
spelling Add = codes "add"
spelling Withdraw = codes "withdraw"
spelling Link = codes "link"
spelling Unlink = codes "unlink"
spelling Member = codes "member"
spelling Present = codes "present"
spelling Clear = codes "clear"
spelling Leave = codes "leave"
spelling Readmit = codes "readmit"
spelling Judge = codes "judge"
spelling Role = codes "role"
spelling Request = codes "request"
spelling Read = codes "read"
spelling Write = codes "write"
spelling Cover = codes "cover"
spelling When = codes "when"

-- the name that the word spells, or an error where it spells none
abbrev pub NameOf : List ℕ → Result CallName UnknownName → Type 0
NameOf word r = MatchResult r (λ name. word ≡ spelling name) (λ _. (name : CallName) → word ≢ spelling name)

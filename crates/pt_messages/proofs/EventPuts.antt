-- What is put into an event.
use Rattle.std.proofs.Common.{◌≡◌, ◌∙◌, ℕ, List, Result, Ok, Err, ap, codes, subst}
use Rattle.std.specs.Prelude.{OnOk, Some}
use Rattle.std.specs.declared.alloc.AllocError.{AllocError}
use Rattle.pt_messages.specs.Counts.{put_count, put_line_counts}
use Rattle.pt_messages.specs.EventMembers.{EndsSo, PutsFault, PutsIf}
use Rattle.pt_messages.specs.Members.{JsonMembers, put_text}
use Rattle.pt_messages.specs.declared.event.Outcome.{Outcome}

-- a text was put
pub puts : (result : Result (Unit {0}) AllocError) (key text : List ℕ) (old new : JsonMembers) → OnOk result (new ≡ put_text key text old)
    → OnOk result (PutsIf key old new)
puts (Ok done) key text old new is = (Some text, is)
puts (Err error) key text old new is = tt

-- the moment, the status, the counts and the fault were put, one after another
pub ends : (result : Result (Unit {0}) AllocError) (status : ℕ) (outcome : Outcome) (old at noted counted new : JsonMembers)
    → PutsIf (codes "end") old at → noted ≡ put_count (codes "status") status at
    → counted ≡ put_line_counts outcome.words outcome.counts noted → OnOk result (PutsFault outcome counted new)
    → OnOk result (EndsSo (status, outcome) old new)
ends (Ok done) status outcome old at noted counted new begun is-noted is-counted put = (
  at,
  begun,
  subst (λ (there : JsonMembers). PutsFault outcome there new) (is-counted ∙ ap (put_line_counts outcome.words outcome.counts) is-noted) put,
)
ends (Err error) status outcome old at noted counted new begun is-noted is-counted put = tt

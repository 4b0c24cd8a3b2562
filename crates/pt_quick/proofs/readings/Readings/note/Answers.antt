use Rattle.std.proofs.Common.{◌∙◌, ap}
use Rattle.std.specs.Prelude.{Some}
use Rattle.pt_quick.specs.Claimed.{HeldDigests, read_at, with_text}
use Rattle.pt_quick.proofs.Adding.{reading_added}
use Rattle.pt_quick.proofs.readings.Readings.note.Goals as goal

pub returns-in_default-last-clause-noted : goal.returns-in_default-last-clause-noted
returns-in_default-last-clause-noted c =
    reading_added c.args.read.now c.args.claimed.now c.self.inside.by_claimed.entries c.insert.new.self.entries c.in-Ok.ensures.updates.1
    c.in-Ok.ensures.updates.3
    ∙ ap (λ (held : HeldDigests). with_text c.args.read.now (Some c.args.claimed.now) (read_at held)) c.self.view_is

pub returns-clause-noted : goal.returns-clause-noted
returns-clause-noted c =
    reading_added c.args.read.now c.args.claimed.now c.self.inside.by_claimed.entries c.insert.new.self.entries c.in-Ok.ensures.updates.1
    c.in-Ok.ensures.updates.3
    ∙ ap (λ (held : HeldDigests). with_text c.args.read.now (Some c.args.claimed.now) (read_at held)) c.self.view_is

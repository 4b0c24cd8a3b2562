use Rattle.std.proofs.Common.{◌≡◌, ◌∙◌, [], ◌∷◌, append_assoc, string_bytes, sym}
use Rattle.std.proofs.lemmas.Iterator.{YieldsList-from_chars}
use Rattle.std.proofs.lemmas.Iterator.Consumers.{YieldsList-end}
use Rattle.std.proofs.lemmas.List.{append-nil, map-id}
use Rattle.std.specs.Str.{chars}
use Rattle.pt_messages.proofs.Cutting.{none_left, none_more, one_more}
use Rattle.pt_messages.proofs.progress.first_of.Goals as goal

pub loop-c-init : goal.loop-c-init
loop-c-init c rest e = rw (c.new-text.ensures.bytes, e)

pub loop-c-preserved-in-Continue-1 : goal.loop-c-preserved-in-Continue-1
loop-c-preserved-in-Continue-1 c rest e =
    let before = c.loop-c.invariant (c.in-Some.c ∷ rest) (sym (append_assoc c.loop-c.yielded (c.in-Some.c ∷ []) rest) ∙ e) in
    rw c.in_ok-push.ensures.bytes (one_more (string_bytes c.loop-c.text) rest _ c.in-Some.c c.loop-c.left c.if-left-gt0.true before)

pub loop-c-preserved : goal.loop-c-preserved
loop-c-preserved c rest e =
    let before = c.loop-c.invariant (c.in-Some.c ∷ rest) (sym (append_assoc c.loop-c.yielded (c.in-Some.c ∷ []) rest) ∙ e) in
    none_more (string_bytes c.loop-c.text) rest _ c.in-Some.c c.loop-c.left c.if-left-gt0.false before

pub returns : goal.returns
returns c =
    let ended = YieldsList-end (YieldsList-from_chars c.args.line.now c.utf8.line cc) c.loop-c.yielded _ c.loop-c.yielded_by _ _ c.in-None.is
    c.next.ensures.steps in
    let all : c.loop-c.yielded ≡ chars c.args.line.now = sym (map-id c.loop-c.yielded) ∙ ended.0 in
    none_left (string_bytes c.loop-c.text) _ c.loop-c.left (c.loop-c.invariant [] (append-nil c.loop-c.yielded ∙ all))

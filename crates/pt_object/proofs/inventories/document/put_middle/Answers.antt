use Rattle.std.proofs.Common.{[], ◌∷◌, ◌++◌, codes, ap, ◌∙◌}
use Rattle.json.specs.Token.{key, string}
use Rattle.pt_object.proofs.Documents.{middle_written}
use Rattle.pt_object.proofs.inventories.document.put_middle.Goals as goal

pub returns : goal.returns
returns c =
    middle_written c.args.meta.now c.args.out.now c.end_object.new.self c.member.new.self c.key.new.self c.begin_object.new.self c.key-2.new.self
    c.begin_object-2.new.self c.member-2.new.self c.member-3.new.self
    c.key-3.new.self c.begin_object-3.new.self c.in_ok-end_object.ensures c.in_ok-member.ensures c.in_ok-key.ensures c.in_ok-begin_object.ensures
    c.in_ok-key-2.ensures c.in_ok-begin_object-2.ensures
    (c.in_ok-member-2.ensures ∙ ap (λ text. c.begin_object-2.new.self ++ key (codes "created") ∷ string text ∷ []) c.created.ensures)
    (c.in_ok-member-3.ensures ∙ ap (λ text. c.member-2.new.self ++ key (codes "message") ∷ string text ∷ []) c.message.ensures) c.in_ok-key-3.ensures
    c.in_ok-begin_object-3.ensures

use Rattle.std.proofs.Common.{[], ◌∷◌, ◌++◌, codes, ap, ◌∙◌}
use Rattle.json.specs.Token.{key, string}
use Rattle.pt_object.proofs.Documents.{head_written}
use Rattle.pt_object.proofs.inventories.document.put_head.Goals as goal

pub returns : goal.returns
returns c =
    head_written c.args.id.now c.args.algorithm c.args.out.now c.begin_object.new.self c.member.new.self c.member-2.new.self c.member-3.new.self c.key.new.self
    c.in_ok-begin_object.ensures
    (c.in_ok-member.ensures ∙ ap (λ word. c.begin_object.new.self ++ key (codes "digestAlgorithm") ∷ string word ∷ []) c.word.ensures) c.in_ok-member-2.ensures
    c.in_ok-member-3.ensures c.in_ok-key.ensures

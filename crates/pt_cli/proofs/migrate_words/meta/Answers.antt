use Rattle.std.proofs.Common.{◌≡◌, ◌∙◌, Bor, Option, Some, None, Result, Ok, ap, sym}
use Rattle.std.specs.Option.{option_map}
use Rattle.clap.specs.Words.{Text}
use Rattle.pt_cli.specs.Arguments.{needed}
use Rattle.pt_cli.specs.declared.faults.Unread.{Unread}
use Rattle.pt_cli.proofs.migrate_words.meta.Goals as goal

-- a text that has to be there, and is
there : (given : Option (Bor Text)) (text : Bor Text) (found : Option Text) → Ok text ≡ needed given → option_map (λ (s : Bor Text). s.now) given ≡ found
    → found ≡ Some text.now
there None text found is same = absurd (cc)
there (Some other) text found is same =
    let one : other ≡ text = cc in
    sym same ∙ ap (λ (s : Bor Text). Some s.now) one

pub returns : goal.returns
returns c =
    rw (
      there c.text.result c.in_ok-created.created _ c.in_ok-created.ensures c.text.ensures,
      there c.text-2.result c.in_ok-name.name _ c.in_ok-name.ensures c.text-2.ensures,
      there c.text-3.result c.in_ok-message.message _ c.in_ok-message.ensures c.text-3.ensures,
      ← c.text-4.ensures,
    ) c.meta_of.ensures

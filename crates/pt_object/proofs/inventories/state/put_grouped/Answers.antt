use Rattle.std.proofs.Common.{◌+◌, ◌<◌, ◌∙◌, ◌∷◌, ◌++◌, ap, refl, List, ℕ, arith, length}
use Rattle.std.proofs.lemmas.List.{length-drop}
use Rattle.json.specs.Token.{key}
use Rattle.hex.specs.Hex.{encode_lower}
use Rattle.serde_json.specs.Data.{array}
use Rattle.pt_object.specs.Entries.{grouped}
use Rattle.pt_object.specs.Inventory.{texts}
use Rattle.pt_object.specs.Tokens.{tokens_of}
use Rattle.pt_object.specs.declared.table.contents.Content.{Content}
use Rattle.pt_object.proofs.Entries.{in_items, one_more}
use Rattle.pt_object.proofs.Grouped.{content_texts}
use Rattle.pt_object.proofs.inventories.state.put_grouped.Goals as goal

pub loop-i-preserved : goal.loop-i-preserved
loop-i-preserved c =
    let items : List Content = c.args.parts.now.items.now in
    let index = c.args.parts.now.index.now in
    let rows = c.args.parts.now.rows.now in
    let position = c.get-position.result in
    let x : Content = c.index-items-position.result in
    let early : c.args.from + c.loop-i.i < length items = omega (arith, c.loop-i-test.true, c.requires.within, length-drop c.args.from items) in
    let list =
    content_texts c.args.parts.now.groups.items rows rows items items index position x c.index.result.now c.deref.result.now refl refl
    c.requires.parts.contents c.requires.parts.ordered c.requires.parts.grouped_are
    (in_items items index (c.args.from + c.loop-i.i) position c.requires.parts.ordered early c.get-position.ensures)
    c.index-items-position.is c.index.ensures c.deref.ensures.value
    in
    one_more (grouped rows) items index c.args.from c.loop-i.i c.args.count position x _ _ _ c.requires.parts.ordered c.loop-i-test.true c.requires.within
    c.get-position.ensures
    c.index-items-position.is (c.in_ok-read_later_ahead.ensures ∙ c.in_ok-read_ahead.ensures ∙ c.loop-i.invariant)
    (c.in_ok-put_paths.ensures ∙ ap (λ (l : List (List ℕ)). c.read_later_ahead.new.out ++ key (encode_lower x.digest) ∷ tokens_of (array (texts l))) list)

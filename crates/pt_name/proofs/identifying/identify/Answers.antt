use Rattle.std.proofs.Common.{◌∙◌, List, ℕ, ap, sym}
use Rattle.std.proofs.lemmas.Result.{IfOk-weaker}
use Rattle.std.specs.Prelude.{Option}
use Rattle.pt_name.specs.Unmet.{without, without_any}
use Rattle.pt_name.proofs.Identified.{on_ok, read_bad, read_named, read_whole}
use Rattle.pt_name.proofs.identifying.identify.Goals as goal

pub returns-in-Ok-clause-says : goal.returns-in-Ok-clause-says
returns-in-Ok-clause-says c = IfOk-weaker c.with_place.result _ _ (λ answer is. is
    ∙ read_whole c.args.layout c.args.share.now c.args.site.now c.deref.result.now c.args.prefix.now _ c.deref-in-Ok.result.now c.in-Ok.read
    c.in-Ok.ensures.exact (c.deref.ensures.value ∙ c.in_ok-text.ensures.text) c.deref-in-Ok.ensures c.in_ok-id-in-Ok.ensures)
    c.with_place.ensures

pub returns-in-Ok-clause-notes : goal.returns-in-Ok-clause-notes
returns-in-Ok-clause-notes c =
    let named = read_named c.args.site.now c.deref.result.now c.args.prefix.now _ c.deref-in-Ok.result.now c.in-Ok.read c.in-Ok.ensures.exact
    (c.deref.ensures.value ∙ c.in_ok-text.ensures.text) c.deref-in-Ok.ensures c.in_ok-id-in-Ok.ensures in
    on_ok c.with_place.result (c.note_met.ensures ∙ ap (λ (id : List ℕ). without id c.args.unmet.now) (c.as_bytes.ensures.value ∙ c.as_str.ensures)
    ∙ ap (λ (id : Option (List ℕ)). without_any id c.args.unmet.now) (sym named))

pub returns-in-Err-NotUtf8-clause-notes : goal.returns-in-Err-NotUtf8-clause-notes
returns-in-Err-NotUtf8-clause-notes c = let b = c.in-Err-NotUtf8.ensures.exact in
    ap (λ (id : Option (List ℕ)). without_any id c.args.unmet.now)
    (sym (read_bad c.args.site.now c.deref.result.now c.args.prefix.now (rw c.in-Err-NotUtf8.field-0-is at b) (c.deref.ensures.value
    ∙ c.in_ok-text.ensures.text)))

use Rattle.std.proofs.Common.{◌≡◌, ◌++◌, ◌∙◌, ap, append-nil, append_assoc, false, List, ℕ, subst, sym, true, Vec}
use Rattle.std.specs.Str.{IsUtf8}
use Rattle.std.specs.declared.alloc.Global.{Global}
use Rattle.std.proofs.lemmas.Str.{IsUtf8-append}
use Rattle.serde_json.specs.Read.{read}
use Rattle.pt_object.specs.InPieces.{TakesPiece}
use Rattle.pt_object.proofs.InventoryText.{inventory_reads}
use Rattle.pt_object.proofs.inventories.inventory.Goals as goal

pub loop-text-preserved : goal.loop-text-preserved
loop-text-preserved c =
    let took : TakesPiece true c.loop-text.pieces c.next.new.self = subst (λ b. TakesPiece b c.loop-text.pieces c.next.new.self) c.if-branch.true
    c.in_ok-next.ensures in
    let more : c.extend_from_slice.new.self.items ≡ c.loop-text.text.items ++ c.next.new.self.piece =
    c.in_ok-extend_from_slice.ensures.items ∙ ap (λ (l : List ℕ). c.loop-text.text.items ++ l) c.piece.ensures in (
      ap (λ (l : List ℕ). l ++ c.next.new.self.rest) more
          ∙ append_assoc c.loop-text.text.items c.next.new.self.piece c.next.new.self.rest
          ∙ ap (λ (l : List ℕ). c.loop-text.text.items ++ l) (sym took.0)
          ∙ c.loop-text.invariant.0,
      subst IsUtf8 (sym more) (IsUtf8-append c.loop-text.text.items c.next.new.self.piece c.loop-text.invariant.1 took.2),
    )

pub returns-clause-reads : goal.returns-clause-reads
returns-clause-reads c =
    let ended : TakesPiece false c.loop-text.pieces c.next.new.self = subst (λ b. TakesPiece b c.loop-text.pieces c.next.new.self) c.if-branch.false
    c.in_ok-next.ensures in
    let whole = sym (append-nil c.loop-text.text.items) ∙ ap (λ (l : List ℕ). c.loop-text.text.items ++ l) (sym ended.0) ∙ c.loop-text.invariant.0 in
    ap read (ap (λ (text : Vec ℕ Global). text.items) c.from_utf8_unchecked.ensures.value ∙ whole)
    ∙ inventory_reads c.args.id.now c.args.rows.now c.args.meta.now c.args.algorithm

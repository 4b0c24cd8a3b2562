use Rattle.std.proofs.Common.{◌≡◌, ◌∙◌, ◌++◌, ◌∷◌, [], List, ℕ, ap, arith, inl, inr, min, refl, subst, sym, take}
use Rattle.std.specs.Int.{from_be_bytes, w32}
use Rattle.std.proofs.lemmas.List.{take_all, take_min}
use Rattle.sha2.specs.Hashers.{Holds256}
use Rattle.sha2.specs.declared.Sha256.{Sha256}
use Rattle.sha2.specs.Sha256.{sha256}
use Rattle.pt_tree.specs.Path.{joined}
use Rattle.pt_tree.proofs.Joining.{joined_more}
use Rattle.pt_name.specs.Share.{digest_number, way_text}
use Rattle.pt_name.proofs.division.way_head.Goals as goal
use Rattle.pt_name.proofs.division.way_head.Goals.{then-i-gt0, else-i-gt0}

pub loop-i-preserved : goal.loop-i-preserved
loop-i-preserved c =
    let i = c.loop-i.i in
    let names = take c.min-shorties.result c.names.result.now in
    let name = c.index-names-i.result in
    let so_far = joined (take i names) in
    let bytes : c.bytes.result.now ≡ name = c.bytes.ensures.bytes in
    let new = c.update-in-loop-i.new.self in
    elim c.if-i-gt0.branch [
      | then-i-gt0 w ↦
          let slash : w.as_slice.result.now ≡ 47 ∷ [] = w.as_slice.ensures in
          let before = subst (λ (h : Sha256). Holds256 h (so_far ++ w.as_slice.result.now)) (sym w.hasher-is) (w.update.ensures so_far c.loop-i.invariant) in
          let more = joined_more names i name so_far (so_far ++ 47 ∷ []) c.loop-i-test.true c.index-names-i.is refl (inl (w.if-i-gt0.true, refl)) in
          subst (λ (m : List ℕ). Holds256 new m) (ap (λ (n : List ℕ). (so_far ++ w.as_slice.result.now) ++ n) bytes
          ∙ ap (λ (s : List ℕ). (so_far ++ s) ++ name) slash ∙ more)
          (c.update-in-loop-i.ensures (so_far ++ w.as_slice.result.now) before)
      | else-i-gt0 w ↦
          let first = w.if-i-gt0.false in
          let before = subst (λ (h : Sha256). Holds256 h so_far) (sym w.hasher-is) c.loop-i.invariant in
          let more = joined_more names i name so_far so_far c.loop-i-test.true c.index-names-i.is refl (inr (omega (arith, first), refl)) in
          subst (λ (m : List ℕ). Holds256 new m) (ap (λ (n : List ℕ). so_far ++ n) bytes ∙ more) (c.update-in-loop-i.ensures so_far before)
    ]

pub returns : goal.returns
unfolding digest_number
returns c =
    let site = c.args.site.now in
    let names = take c.min-shorties.result c.names.result.now in
    let shorties : names ≡ take c.args.depth site =
    ap (λ (p : List (List ℕ)). take c.min-shorties.result p) c.names.ensures
    ∙ ap (λ n. take n site) (c.min-shorties.ensures ∙ ap (λ n. min c.args.depth n) c.len.ensures) ∙ take_min c.args.depth site in
    let all : take c.loop-i.i names ≡ take c.args.depth site = take_all c.loop-i.i names c.loop-i-test.false ∙ shorties in
    let digest : c.finalize.result ≡ sha256 (way_text c.args.depth site) =
    c.finalize.ensures (joined (take c.loop-i.i names)) c.loop-i.invariant ∙ ap (λ (p : List (List ℕ)). sha256 (joined p)) all in
    c.head_of.ensures ∙ ap (from_be_bytes w32) digest

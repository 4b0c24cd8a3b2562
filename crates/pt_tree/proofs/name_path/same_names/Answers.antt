use Rattle.std.proofs.Common.{◌≡◌, ◌<◌, ◌∷◌, [], ◌∙◌, ap, sym, rules, refl, false, true, length, take, get_or}
use Rattle.std.specs.Prelude.{◌++◌}
use Rattle.std.specs.Bool.{Decides}
use Rattle.std.specs.Str.{bytes_eq}
use Rattle.std.proofs.lemmas.Bool.{false_from_ne_true}
use Rattle.std.proofs.lemmas.List.{get_or_default, take_all, take_more}
use Rattle.std.proofs.lemmas.Slice.Eq.{bytes_eq-Decides, slice_eq-Decides}
use Rattle.pt_tree.specs.Path.{Path, same_path}
use Rattle.pt_tree.proofs.name_path.same_names.Goals as goal

decides : (p q : Path) → Decides (same_path p q) (p ≡ q)
decides p q = slice_eq-Decides bytes_eq-Decides p q (same_path p q) refl

pub returns-then-not-same : goal.returns-then-not-same
returns-then-not-same c =
    let p = c.args.names.now in
    let q = c.args.others.now in
    let i = c.loop-i.i in
    let x = c.index-names-i.result in
    let y = c.index-others-i.result in
    let there : i < length q = search rules in
    let differ : false ≡ bytes_eq x y = c.if-not-same.ensures in
    sym (false_from_ne_true _ (λ is.
    let same : x ≡ y = c.index-names-i.is ∙ ap (λ l. get_or l i x) ((decides p q).0 is) ∙ get_or_default q i x y there ∙ sym c.index-others-i.is in
    let equal : bytes_eq x y ≡ true = (bytes_eq-Decides x y).1 same in
    absurd (cc)))

pub loop-i-preserved : goal.loop-i-preserved
loop-i-preserved c =
    let p = c.args.names.now in
    let q = c.args.others.now in
    let i = c.loop-i.i in
    let x = c.index-names-i.result in
    let y = c.index-others-i.result in
    let same : x ≡ y = (bytes_eq-Decides x y).0 (search rules) in
    let here : i < length p = search rules in
    let there : i < length q = search rules in
    take_more p i x here ∙ ap (λ l. l ++ get_or p i x ∷ []) c.loop-i.invariant
    ∙ ap (λ n. take i q ++ n ∷ []) (sym c.index-names-i.is ∙ same ∙ c.index-others-i.is) ∙ sym (take_more q i y there)

pub returns : goal.returns
returns c =
    let p = c.args.names.now in
    let q = c.args.others.now in
    let i = c.loop-i.i in
    let p_all : take i p ≡ p = take_all i p (search rules) in
    let q_all : take i q ≡ q = take_all i q (search rules) in
    sym ((decides p q).1 (sym p_all ∙ c.loop-i.invariant ∙ q_all))

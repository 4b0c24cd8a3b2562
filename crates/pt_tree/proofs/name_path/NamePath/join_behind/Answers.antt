use Rattle.std.proofs.Common.{◌≡◌, ◌<◌, ◌+◌, ◌∷◌, [], ◌++◌, inl, true, drop, get_or, take, length, ◌∙◌, ap, arith, refl, rules, sym, append_assoc}
use Rattle.std.specs.Str.{is_utf8}
use Rattle.std.proofs.lemmas.List.{get_or-drop, nil_from_length, take_more, take_rest}
use Rattle.std.proofs.lemmas.List.Elements.{All-more}
use Rattle.pt_tree.specs.Name.{is_name}
use Rattle.pt_tree.specs.Path.{joined}
use Rattle.pt_tree.proofs.Joining.{joined_more}
use Rattle.pt_tree.proofs.Texts.{is_utf8-append, is_utf8-empty, is_utf8-slash, is_utf8-name}
use Rattle.pt_tree.proofs.name_path.NamePath.join_behind.Goals as goal

pub returns-in_default-clause-utf8 : goal.returns-in_default-clause-utf8
returns-in_default-clause-utf8 c =
    let none : length c.args.self.now ≡ 0 = search rules in
    ap (λ p. is_utf8 (joined p)) (nil_from_length _ none) ∙ is_utf8-empty

pub loop-i-init : goal.loop-i-init
loop-i-init c =
    let names = c.args.self.now in
    let name = c.first-item.result in
    let some : 0 < length names = search rules in
    let same : c.names.result.now ≡ names = search rules in
    let is : name ≡ get_or names 0 name = c.first-item.is ∙ ap (λ l. get_or l 0 name) same in
    let one : take 1 names ≡ name ∷ [] = take_more names 0 name some ∙ ap (λ n. n ∷ []) (sym is) in (
      c.in_ok-end.ensures.bytes ∙ ap (λ p. c.args.text.now.items ++ joined p) (sym one),
      c.in_ok-end.ensures.within,
      ap (λ p. is_utf8 (joined p)) one ∙ is_utf8-name name c.in_ok-end.ensures.name,
      All-more (λ n. is_name n ≡ true) names 0 name some (λ k d below. absurd (omega arith)) (ap is_name (sym is) ∙ c.in_ok-end.ensures.name),
    )

pub loop-i-preserved : goal.loop-i-preserved
loop-i-preserved c =
    let names = c.args.self.now in
    let i = c.loop-i.i in
    let front = c.args.text.now.items in
    let so_far = joined (take (i + 1) names) in
    let name = c.index-others-i.result in
    let within : i + 1 < length names = search rules in
    let same : c.names.result.now ≡ names = search rules in
    let is : name ≡ get_or names (i + 1) name =
    c.index-others-i.is ∙ ap (λ l. get_or l i name) (take_rest c.names.result.now 1 ∙ ap (drop 1) same) ∙ get_or-drop 1 names i name
    ∙ ap (λ k. get_or names k name) (omega arith) in
    let more : (so_far ++ 47 ∷ []) ++ name ≡ joined (take (i + 1 + 1) names)
    = joined_more names (i + 1) name so_far (so_far ++ 47 ∷ []) within is refl (inl (omega arith, refl)) in (
      c.in_ok-end-2.ensures.bytes ∙ ap (λ l. l ++ 47 ∷ name) c.loop-i.invariant.0 ∙ append_assoc front so_far (47 ∷ name)
          ∙ ap (λ l. front ++ l) (sym (append_assoc so_far (47 ∷ []) name) ∙ more),
      c.in_ok-end-2.ensures.within,
      ap is_utf8 (sym more) ∙ is_utf8-append (so_far ++ 47 ∷ []) name (is_utf8-append so_far (47 ∷ []) c.loop-i.invariant.2 is_utf8-slash)
          (is_utf8-name name c.in_ok-end-2.ensures.name),
      All-more (λ n. is_name n ≡ true) names (i + 1) name within c.loop-i.invariant.3 (ap is_name (sym is) ∙ c.in_ok-end-2.ensures.name),
    )

use Rattle.std.proofs.Common.{◌≡◌, ℕ, ◌+◌, ◌<◌, List, [], ◌∷◌, ◌++◌, get_or, length, map, take, sym, ap, ◌∙◌, append_assoc}
use Rattle.std.proofs.lemmas.List.{map_push, take_all, take_more}
use Rattle.json.specs.Token.{Token, begin_array, key, string}
use Rattle.hex.specs.Hex.{encode_lower}
use denote.Ref.{Bor}
use Rattle.pt_tree.specs.Path.{Path, joined}
use Rattle.pt_object.proofs.Appended.{appended}
use Rattle.pt_object.proofs.Entries.{path_tokens}
use Rattle.pt_object.proofs.inventories.state.put_paths.Goals as goal

-- one more path
one_more : (f : Bor Path → Token) (paths : List (Bor Path)) (i : ℕ) (x : Bor Path) (o h s t : List Token) → i < length paths → x ≡ get_or paths i x
    → s ≡ o ++ (h ++ map f (take i paths)) → t ≡ s ++ f x ∷ []
    → t ≡ o ++ (h ++ map f (take (i + 1) paths))
one_more f paths i x o h s t within is so_far more =
    let next : map f (take i paths) ++ f x ∷ [] ≡ map f (take (i + 1) paths) = sym
    (ap (map f) (take_more paths i x within ∙ ap (λ (y : Bor Path). take i paths ++ y ∷ []) (sym is)) ∙ map_push f (take i paths) x) in
    appended o (h ++ map f (take i paths)) (f x ∷ []) s t so_far more ∙ ap (λ (l : List Token). o ++ l) (append_assoc h (map f (take i paths)) (f x ∷ [])
    ∙ ap (λ (l : List Token). h ++ l) next)

pub loop-path-init : goal.loop-path-init
loop-path-init c = appended c.args.out.now _ _ _ _ (appended c.args.out.now _ _ _ _ c.in_ok-digest.ensures c.in_ok-begin_array.ensures) c.in_ok-path.ensures

pub loop-path-preserved : goal.loop-path-preserved
loop-path-preserved c =
    one_more (λ path. string (joined path.now)) c.args.later.now c.loop-path.path-index c.path-item.result c.args.out.now
    (key (encode_lower c.args.content.now.digest) ∷ begin_array ∷ string (joined c.args.content.now.path) ∷ []) c.loop-path.out _ c.loop-path-test.true
    c.path-item.is c.loop-path.invariant c.in_ok-path-2.ensures

pub returns : goal.returns
returns c =
    simp (c.in_ok-end_array.ensures, c.loop-path.invariant, take_all _ _ c.loop-path-test.false, path_tokens c.args.later.now, append_assoc)

use Rattle.std.proofs.Common.{◌≡◌, ◌∷◌, ◌++◌, map, take}
use Rattle.json.specs.Token.{begin_array, key, string}
use Rattle.hex.specs.Hex.{encode_lower}
use denote.Ref.{Bor}
use Rattle.pt_tree.specs.Path.{Path, joined}
use Rattle.pt_object.proofs.inventories.state.put_paths.Given as goal

abbrev pub invariant-loop-path : goal.invariant-loop-path
invariant-loop-path l =
    l.out
    ≡ l.fn.out ++ key (encode_lower l.content.digest) ∷ begin_array ∷ string (joined l.content.path) ∷ map (λ (path : Bor Path). string (joined path.now))
    (take l.path-index l.later)

-- The files of a storage root are read whole by their first block.
use Rattle.std.proofs.Common.{◌≡◌, ◌<◌, ◌≤◌, ◌+◌, ℕ, zero, suc, List, ◌++◌, refl, ap, sym, ◌∙◌, arith, length, take}
use Rattle.std.specs.Prelude.{Option, None, Some, codes, decimal, min, slice_get}
use Rattle.std.specs.Option.{option_map}
use Rattle.std.proofs.lemmas.Bool.{ltb-true}
use Rattle.std.proofs.lemmas.Fmt.{length-decimal-le}
use Rattle.std.proofs.lemmas.List.{length-append, length-take, take_all}
use Rattle.pt_name.specs.Tuples.{IsLayout, Tuples}
use Rattle.pt_object.specs.Files.{root_declaration_bytes}
use Rattle.pt_object.specs.RootFiles.{config_text, layout_text, root_files_of}
use Rattle.pt_tree.specs.Path.{Path}
use Rattle.pt_tree.specs.Tree.{Bytes, Entry, Folder, Special, bytes_of}
use Rattle.pt_invariant.proofs.source.InPairtree.{some_same}

-- what is shorter than a block is read whole by one
pub peeked_whole : (o : Option Entry) {bytes : List ℕ} → option_map (take 8192) (bytes_of o) ≡ Some bytes → length bytes < 8192 → o ≡ Some (Bytes bytes)
peeked_whole None read short = absurd (cc)
peeked_whole (Some Folder) read short = absurd (cc)
peeked_whole (Some Special) read short = absurd (cc)
peeked_whole (Some (Bytes held)) {bytes} read short =
    let block : take 8192 held ≡ bytes = some_same (take 8192 held) bytes read in
    let long : length bytes ≡ min 8192 (length held) = ap length (sym block) ∙ length-take 8192 held in
    ap (λ (l : List ℕ). Some (Bytes l)) (sym (take_all 8192 held (omega (arith, long, short))) ∙ block)

five_parts : (a x b y c : List ℕ) → length (a ++ (x ++ (b ++ (y ++ c)))) ≡ length a + (length x + (length b + (length y + length c)))
five_parts a x b y c = let one = length-append a (x ++ (b ++ (y ++ c))) in let two = length-append x (b ++ (y ++ c)) in let three = length-append b (y ++ c)
    in let four = length-append y c in omega (arith, one, two, three, four)

config_short : (tuples : Tuples) → IsLayout tuples → length (config_text tuples) < 8192
config_short tuples is =
    let size = is.size in
    let count = is.count in
    let one : length (decimal tuples.size) ≤ 2 = length-decimal-le 2 tuples.size (omega arith) (omega (arith, size)) (omega (arith, size)) in
    let two : length (decimal tuples.count) ≤ 2 = length-decimal-le 2 tuples.count (omega arith) (omega (arith, count)) (omega (arith, count)) in
    let all = five_parts
    (codes "{\"digestAlgorithm\":\"sha256\",\"extensionName\":\"0003-hash-and-id-n-tuple-storage-layout\",\"numberOfTuples\":") (decimal tuples.count)
    (codes ",\"tupleSize\":") (decimal tuples.size) (codes "}") in
    omega (arith, one, two, all)

-- so is each file of the root
pub file_short : (tuples : Tuples) (number : ℕ) (path : Path) (bytes : List ℕ) → IsLayout tuples → slice_get (root_files_of tuples) number ≡ Some (path, bytes)
    → length bytes < 8192
file_short tuples zero path bytes layout is =
    let same : root_declaration_bytes ≡ bytes = ap (λ (f : Path × List ℕ). f.1) (some_same _ (path, bytes) is) in
    rw (← same) (ltb-true (length root_declaration_bytes) 8192 refl)
file_short tuples (suc zero) path bytes layout is =
    let same : layout_text ≡ bytes = ap (λ (f : Path × List ℕ). f.1) (some_same _ (path, bytes) is) in
    rw (← same) (ltb-true (length layout_text) 8192 refl)
file_short tuples (suc (suc zero)) path bytes layout is =
    let same : config_text tuples ≡ bytes = ap (λ (f : Path × List ℕ). f.1) (some_same _ (path, bytes) is) in
    rw (← same) (config_short tuples layout)
file_short tuples (suc (suc (suc number))) path bytes layout is = absurd (cc)

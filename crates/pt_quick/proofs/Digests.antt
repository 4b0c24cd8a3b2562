-- The rows of files have digests of their algorithm.
use Rattle.std.proofs.Common.{ℕ, zero, suc, ◌<◌, List, [], ◌∷◌, arith, subst, sym}
use Rattle.std.specs.Prelude.{All, slice_index}
use Rattle.std.specs.Int.{byte_len, w64}
use Rattle.std.proofs.lemmas.List.Elements.{All-append, All-cons, All-head, All-nil, All-tail, All-weaker}
use Rattle.sha2.specs.Sha512.{digest_bytes, sha512}
use Rattle.sha2.proofs.Facts256.{length-sha256}
use Rattle.sha2.proofs.Facts512.{length-sha512}
use Rattle.hex.specs.Hex.{IsBytes}
use Rattle.pt_name.proofs.Digits.{All-sha256, All-word}
use Rattle.pt_object.specs.Algorithm.{digest_of}
use Rattle.pt_object.specs.HexDigest.{IsDigest}
use Rattle.pt_object.specs.Object.{row_of_file, rows_of}
use Rattle.pt_object.specs.declared.algorithm.Algorithm.{Algorithm}
use Rattle.pt_object.specs.declared.algorithm.Algorithm.TheVariants.{Sha512, Sha256}
use Rattle.pt_object.specs.declared.rows.Row.{Row}
use Rattle.pt_quick.specs.Quick.{HaveDigests, read_digest}
use Rattle.pt_quick.specs.QuickLaws.{RowsOfFilesHaveDigests}
use Rattle.pt_quick.specs.ReadAlike.{HasRead}
use Rattle.pt_tree.specs.Path.{Path}

All-digest_bytes : (h : List ℕ) (n : ℕ) → All (λ b. b < 256) (digest_bytes h n)
unfolding digest_bytes
All-digest_bytes h zero = All-nil (λ b. b < 256)
All-digest_bytes h (suc n) = All-append (λ b. b < 256) _ _ (All-digest_bytes h n) (All-word (byte_len w64) (slice_index h n))

All-digest : (algorithm : Algorithm) (m : List ℕ) → All (λ b. b < 256) (digest_of algorithm m)
unfolding sha512
All-digest Sha512 m = All-digest_bytes _ 8
All-digest Sha256 m = All-sha256 m

are_bytes : (xs : List ℕ) → All (λ b. b < 256) xs → IsBytes xs
are_bytes [] h i = omega arith
are_bytes (x ∷ xs) h zero = All-head (λ b. b < 256) x xs h
are_bytes (x ∷ xs) h (suc i) = are_bytes xs (All-tail (λ b. b < 256) x xs h) i

is_digest : (algorithm : Algorithm) (m : List ℕ) → IsDigest algorithm (digest_of algorithm m)
is_digest Sha512 m = record { bytes = are_bytes (digest_of Sha512 m) (All-digest Sha512 m); size = length-sha512 m }
is_digest Sha256 m = record { bytes = are_bytes (digest_of Sha256 m) (All-digest Sha256 m); size = length-sha256 m }

pub rows_have_digests : RowsOfFilesHaveDigests
rows_have_digests algorithm [] = All-nil (λ row. IsDigest algorithm row.digest)
rows_have_digests algorithm (file ∷ files) =
    All-cons (λ row. IsDigest algorithm row.digest) (row_of_file algorithm file) (rows_of algorithm files) (is_digest algorithm file.1)
    (rows_have_digests algorithm files)

-- so have rows whose digests are those of what was read
pub read_have_digests : (algorithm : Algorithm) (bytes : Path → List ℕ) (rows : List Row) → All (HasRead (read_digest algorithm bytes)) rows
    → HaveDigests algorithm rows
read_have_digests algorithm bytes rows own =
    All-weaker (HasRead (read_digest algorithm bytes)) (λ row. IsDigest algorithm row.digest)
    (λ row is. subst (IsDigest algorithm) (sym is) (is_digest algorithm (bytes row.path))) rows own

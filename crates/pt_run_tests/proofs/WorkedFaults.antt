-- What a fault leaves of the worked stores, computed.
use Rattle.std.proofs.Common.{refl}
use Rattle.std.specs.Str.{chars, is_utf8}
use Rattle.std.specs.Fmt.{digits}
use lib.Utf8.{encode}
use Rattle.hex.specs.Hex.{encode_with}
use Rattle.serde_json.proofs.OnLiterals.{serde_json_on_literals}
use Rattle.sha2.specs.Sha256.{compress, digest_bytes, first_words, hash_after, rounds, schedule, sha256}
use Rattle.pt_name.specs.Share.{digest_number}
use Rattle.pt_run_tests.specs.WorkedFaults.{EmptyStoreTells, OneIdentifierCounts, OneObjectHasTuples, RerunCarriesTheObject, TwoTuplesStand}

pub one_object_has_tuples : OneObjectHasTuples
unfolding is_utf8 chars encode first_words schedule rounds compress hash_after digest_bytes sha256 encode_with digest_number
one_object_has_tuples = (refl, refl)

pub two_tuples_stand : TwoTuplesStand
unfolding is_utf8 chars encode first_words schedule rounds compress hash_after digest_bytes sha256 encode_with digest_number
two_tuples_stand = (refl, refl, refl)

pub rerun_carries_the_object : RerunCarriesTheObject
unfolding is_utf8 chars encode first_words schedule rounds compress hash_after digest_bytes sha256 encode_with digest_number
rerun_carries_the_object = (refl, refl)

pub empty_store_tells : EmptyStoreTells
unfolding is_utf8 chars encode digits serde_json_on_literals first_words schedule rounds compress hash_after digest_bytes sha256 digest_number
empty_store_tells = (refl, refl, refl)

pub one_identifier_counts : OneIdentifierCounts
unfolding is_utf8 chars encode first_words schedule rounds compress hash_after digest_bytes sha256 digest_number
one_identifier_counts = refl

use Rattle.std.proofs.Common.{◌≡◌, map, take}
use Rattle.std.specs.String.{string_bytes}
use Rattle.pt_name.specs.Unmet.{may_meet}
use Rattle.pt_name.proofs.unmet_identifiers.flags_of.Given as goal

-- the flags of the identifiers so far
abbrev pub invariant-loop-id : goal.invariant-loop-id
invariant-loop-id l = l.flags.items ≡ map (λ id. may_meet l.share (string_bytes id)) (take l.id-index l.ids)

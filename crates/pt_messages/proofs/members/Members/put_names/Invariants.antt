use Rattle.std.proofs.Common.{◌≡◌, map, string_bytes, take}
use Rattle.pt_messages.proofs.members.Members.put_names.Given as goal

-- the names so far are the texts
abbrev pub invariant-loop-name : goal.invariant-loop-name
invariant-loop-name l = map string_bytes l.texts.items ≡ take l.name-index l.names

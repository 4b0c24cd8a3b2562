use Rattle.std.proofs.Common.{map, string_bytes, take}
use Rattle.pt_messages.proofs.PlainPut.{plain_texts}
use Rattle.pt_messages.proofs.members.Members.put_texts.Goals as goal

pub put-requires : goal.put-requires
put-requires c = rw (c.from-2.ensures, c.loop-text.invariant) (plain_texts (map string_bytes (take c.loop-text.text-index c.args.texts.now)))

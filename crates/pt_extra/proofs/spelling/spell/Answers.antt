use Rattle.std.proofs.Common.{◌≡◌, ◌+◌, ◌-◌, ◌≤◌, ◌++◌, sym, subst, ◌∙◌, ℕ, drop, length, take, get_or, arith}
use Rattle.std.proofs.lemmas.List.{length-take-le}
use Rattle.json.specs.Print.{escape as escaped, escape_byte}
use Rattle.pt_extra.proofs.Spelled.{begins_at, byte_there, has_room, kept_before, no_shorter, spelled_more, within_text}
use Rattle.pt_extra.proofs.spelling.spell.Goals as goal

pub put_spelling-at-requires : goal.put_spelling-at-requires
put_spelling-at-requires c =
    let l = c.bytes in
    let text = c.args.bytes.now in
    let k = l.left - 1 in
    let one : k + 1 ≡ l.left = omega arith in
    let is : l.at ≡ c.args.from + length (escaped (take (k + 1) text)) =
    subst (λ (n : ℕ). l.at ≡ c.args.from + length (escaped (take n text))) (sym one) l.invariant.1 in
    let kept : take (k + 1) l.bytes ≡ take (k + 1) text = subst (λ (n : ℕ). take n l.bytes ≡ take n text) (sym one) l.invariant.3 in
    let room = has_room text k l.at c.args.from (omega arith) is in
    let bound = within_text text (k + 1) c.args.len l.at c.args.from (omega arith) (omega arith) c.requires.room is in
    (subst (λ (b : ℕ). length (escape_byte b) ≤ l.at) (sym (byte_there text l.bytes k kept)) room, omega (arith, bound))

pub bytes-preserved : goal.bytes-preserved
bytes-preserved c =
    let l = c.bytes in
    let text = c.args.bytes.now in
    let k = l.left - 1 in
    let next = c.put_spelling-at.new.bytes in
    let start = c.put_spelling-at.result in
    let one : k + 1 ≡ l.left = omega arith in
    let is : l.at ≡ c.args.from + length (escaped (take (k + 1) text)) =
    subst (λ (n : ℕ). l.at ≡ c.args.from + length (escaped (take n text))) (sym one) l.invariant.1 in
    let behind : drop l.at l.bytes ≡ escaped (drop (k + 1) (take c.args.len text)) =
    subst (λ (n : ℕ). drop l.at l.bytes ≡ escaped (drop n (take c.args.len text))) (sym one) l.invariant.2 in
    let kept : take (k + 1) l.bytes ≡ take (k + 1) text = subst (λ (n : ℕ). take n l.bytes ≡ take n text) (sym one) l.invariant.3 in
    let there = byte_there text l.bytes k kept in
    let begins : start + length (escape_byte (get_or text k 0)) ≡ l.at =
    subst (λ (b : ℕ). start + length (escape_byte b) ≡ l.at) there c.put_spelling-at.ensures.start in
    let written : drop start next ≡ escape_byte (get_or text k 0) ++ drop l.at l.bytes =
    subst (λ (b : ℕ). drop start next ≡ escape_byte b ++ drop l.at l.bytes) there c.put_spelling-at.ensures.written in
    let at = begins_at text k l.at c.args.from start (omega arith) is begins in
    let long : k ≤ start = omega (arith, at, no_shorter (take k text), length-take-le k text (omega arith)) in (
      omega arith,
      at,
      spelled_more text l.bytes next k c.args.len l.at start (omega arith) (omega arith) behind written,
      kept_before text l.bytes next k start long kept c.put_spelling-at.ensures.front,
      c.put_spelling-at.ensures.len ∙ l.invariant.4,
    )

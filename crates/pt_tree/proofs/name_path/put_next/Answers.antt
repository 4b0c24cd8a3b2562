use Rattle.std.proofs.Common.{◌∷◌, rules, ◌≡◌, ◌++◌, ◌≤◌, ◌+◌, ◌∙◌, ap, sym, ℕ, List, length, take, append_assoc}
use Rattle.std.proofs.lemmas.List.{take-take, take-append-le, length-take-le}
use Rattle.std.proofs.Math.Seq.{take-append-add}
use Rattle.pt_tree.proofs.name_path.put_next.Goals as goal

-- what is put over the beginning of some room behind a list stands behind the list
put_over : (m n len : ℕ) (front room post more : List ℕ) → length front ≡ m → n ≤ length room → m + n ≤ len
    → take (m + n) (take len ((front ++ (room ++ post)) ++ more)) ≡ front ++ take n room
put_over m n len front room post more size within inside =
    take-take (m + n) len _ inside ∙ ap (take (m + n)) (append_assoc front (room ++ post) more)
    ∙ ap (λ k. take (k + n) (front ++ ((room ++ post) ++ more))) (sym size) ∙ take-append-add front ((room ++ post) ++ more) n
    ∙ ap (λ l. front ++ l) (ap (take n) (append_assoc room post more) ∙ take-append-le n room (post ++ more) within)

pub returns-in-Some-put_behind_slash-clause-bytes : goal.returns-in-Some-put_behind_slash-clause-bytes
returns-in-Some-put_behind_slash-clause-bytes c =
    let items = c.args.text.now.items in
    let end = c.args.end in
    let n = c.in-Some-put_behind_slash.bytes in
    let held = c.deref_mut.result.now in
    let same : held ≡ items = c.deref_mut.ensures.value in
    let size : length items ≡ c.args.text.now.len = search rules in
    let room : length c.put_behind_slash.new.zeros + end ≡ length held = search rules in
    let front : length (take end held) ≡ end = length-take-le end held (search rules) in
    let within : n ≤ length c.put_behind_slash.new.zeros = c.in-Some-put_behind_slash.ensures.within in
    let inside : end + n ≤ c.args.text.now.len = search rules in
    put_over end n c.args.text.now.len (take end held) c.put_behind_slash.new.zeros _ _ front within inside
    ∙ ap (λ l. take end l ++ take n c.put_behind_slash.new.zeros) same
    ∙ ap (λ l. take end items ++ l) (c.in-Some-put_behind_slash.ensures.bytes ∙ ap (λ l. 47 ∷ l) c.in-Some.ensures.bytes)

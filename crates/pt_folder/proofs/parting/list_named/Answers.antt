use Rattle.std.proofs.Common.{◌≡◌, ◌∙◌, ◌++◌, ap, inl, inr, lit<, string_bytes, subst}
use Rattle.std.specs.Prelude.{IfSome, IsPermutation, IsSomeAnd}
use Rattle.pt_folder.specs.Folder.{entry_text}
use Rattle.pt_folder.specs.Listing.{dir_front}
use Rattle.pt_folder.specs.Failure.{IsOfEntry, IsOfNames, IsUnasked}
use Rattle.pt_folder.proofs.FailsStill.{opens_still, still_on}
use Rattle.pt_folder.proofs.Kept.{kept_held, kept_on, kept_weaker}
use Rattle.pt_folder.proofs.Listings.{front_is, list_same, list_told, names_same}
use Rattle.pt_folder.proofs.Listed.{few_listed}
use Rattle.pt_folder.proofs.PartsTold.{fails_past, few_parts, listed_past, parted_given}
use Rattle.pt_folder.proofs.parting.list_named.Goals as goal
use Rattle.pt_folder.proofs.parting.list_named.Given.{Over}
use Rattle.pt_folder.proofs.parting.list_named.Goals.{After-with_kinds, then-not-is_empty+in_ok-push, else-not-is_empty}

-- the text that each entry's path begins with
begins : (g : Over) (c : After-with_kinds g) → string_bytes c.if-not-is_empty.text ≡ dir_front c.args.folder.now.path.now c.args.path.now
begins g c =
    front_is c.args.folder.now.path.now c.args.path.now (string_bytes c.in_ok-text.text) (string_bytes c.if-not-is_empty.text) c.is_empty.result
    c.is_empty.ensures c.in_ok-text.ensures.text
    (elim c.if-not-is_empty.branch [
      | then-not-is_empty+in_ok-push w ↦ inl (
        w.if-not-is_empty.true,
        ap string_bytes w.text-is ∙ w.in_ok-push.ensures.bytes
            ∙ ap (λ l. string_bytes c.in_ok-text.text ++ l) (w.in_ok-push.ensures.ascii (lit< tt)),
      )
      | else-not-is_empty w ↦ inr (w.if-not-is_empty.false, ap string_bytes w.text-is)
    ])

pub returns-clause-same : goal.returns-clause-same
returns-clause-same g c =
    let folder = c.args.folder.now.path.now in
    let p = c.args.path.now in
    let kept = g.S.System.forest in
    let text : c.as_str.result.now ≡ entry_text folder p = c.as_str.ensures.value ∙ c.in_ok-text.ensures.text in
    let same = names_same kept g.S.Dir.Input g.S.System.opens_dir g.met.S.System.names_law folder p c.args.syscalls.now.system c.take_dir.new.syscalls.system
    c.as_str.result.now c.in_ok-text.ensures.named text c.requires _ c.take_dir.ensures.asked in
    list_same kept folder p c.args.syscalls.now.system c.take_dir.new.syscalls.system c.with_kinds.new.syscalls.system (string_bytes c.if-not-is_empty.text)
    c.in_ok-text.ensures.named (begins g c) same c.requires c.with_kinds.result c.with_kinds.ensures.seen c.with_kinds.ensures.same

pub returns-clause-told : goal.returns-clause-told
returns-clause-told g c =
    let folder = c.args.folder.now.path.now in
    let p = c.args.path.now in
    let kept = g.S.System.forest in
    let parted = c.take_dir.new.taken in
    let order = c.sort_unstable-2.new.self.items in
    let text : c.as_str.result.now ≡ entry_text folder p = c.as_str.ensures.value ∙ c.in_ok-text.ensures.text in
    let same = names_same kept g.S.Dir.Input g.S.System.opens_dir g.met.S.System.names_law folder p c.args.syscalls.now.system c.take_dir.new.syscalls.system
    c.as_str.result.now c.in_ok-text.ensures.named text c.requires _ c.take_dir.ensures.asked in
    let proper = g.met.S.System.proper_law c.args.syscalls.now.system folder in
    let given = parted_given kept g.S.Dir.Input g.S.System.opens_dir g.met.S.System.names_law folder p c.args.syscalls.now.system c.take_dir.new.syscalls.system
    c.as_str.result.now c.in_ok-text.ensures.named text c.requires parted c.in_ok-take_dir.field-0 proper c.in_ok-take_dir.ensures.asked in
    let ordered : IsPermutation parted.names.items order = c.sort_unstable-2.ensures.permutation in
    list_told kept folder p c.args.syscalls.now.system c.take_dir.new.syscalls.system c.with_kinds.new.syscalls.system (string_bytes c.if-not-is_empty.text)
    c.in_ok-text.ensures.named (begins g c) same c.requires parted.names.items order c.with_kinds.result proper given ordered
    c.with_kinds.ensures.names c.with_kinds.ensures.seen c.with_kinds.ensures.rise

pub returns-clause-most : goal.returns-clause-most
returns-clause-most g c =
    let text : c.as_str.result.now ≡ entry_text c.args.folder.now.path.now c.args.path.now = c.as_str.ensures.value ∙ c.in_ok-text.ensures.text in
    let parted = c.take_dir.new.taken in
    let few = few_parts g.S.System g.S.Dir.Input c.args.folder.now.path.now c.args.path.now c.args.syscalls.now.system c.take_dir.new.syscalls.system
    c.with_kinds.new.syscalls.system c.as_str.result.now text parted c.in_ok-take_dir.field-0 c.in_ok-take_dir.ensures.asked
    c.sort_unstable.new.self.items c.sort_unstable.ensures.permutation c.sort_unstable.ensures.sorted in
    few_listed parted.names.items c.sort_unstable-2.new.self.items few c.sort_unstable-2.ensures.permutation c.with_kinds.result c.with_kinds.ensures.names

pub returns-clause-listed : goal.returns-clause-listed
returns-clause-listed g c =
    let folder = c.args.folder.now.path.now in
    let p = c.args.path.now in
    let text : c.as_str.result.now ≡ entry_text folder p = c.as_str.ensures.value ∙ c.in_ok-text.ensures.text in
    listed_past g.S.System g.S.Dir.Input folder p c.args.syscalls.now.system c.take_dir.new.syscalls.system c.with_kinds.new.syscalls.system c.as_str.result.now
    text c.take_dir.new.taken c.in_ok-take_dir.field-0 c.in_ok-take_dir.ensures.asked
    c.sort_unstable.new.self.items c.sort_unstable.ensures.permutation c.sort_unstable.ensures.sorted c.sort_unstable-2.new.self.items
    (string_bytes c.if-not-is_empty.text) (begins g c) c.sort_unstable-2.ensures.permutation c.with_kinds.result c.with_kinds.ensures.names
    c.with_kinds.ensures.looked

pub returns-clause-fault : goal.returns-clause-fault
returns-clause-fault g c =
    let folder = c.args.folder.now.path.now in
    let p = c.args.path.now in
    let text : c.as_str.result.now ≡ entry_text folder p = c.as_str.ensures.value ∙ c.in_ok-text.ensures.text in
    fails_past g.S.System g.S.Dir.Input folder p c.args.syscalls.now.system c.take_dir.new.syscalls.system c.with_kinds.new.syscalls.system c.as_str.result.now
    text c.take_dir.new.taken c.in_ok-take_dir.field-0 c.in_ok-take_dir.ensures.asked
    c.sort_unstable.new.self.items c.sort_unstable.ensures.permutation c.sort_unstable.ensures.sorted c.sort_unstable-2.new.self.items
    (string_bytes c.if-not-is_empty.text) (begins g c) c.sort_unstable-2.ensures.permutation c.args.refused.now.items c.with_kinds.result
    c.sort_unstable-2.ensures.sorted c.with_kinds.ensures.fault

pub returns-in_err-take_dir-clause-same : goal.returns-in_err-take_dir-clause-same
returns-in_err-take_dir-clause-same g c =
    names_same g.S.System.forest g.S.Dir.Input g.S.System.opens_dir g.met.S.System.names_law c.args.folder.now.path.now c.args.path.now
    c.args.syscalls.now.system c.take_dir.new.syscalls.system c.as_str.result.now c.in_ok-text.ensures.named (c.as_str.ensures.value
    ∙ c.in_ok-text.ensures.text) c.requires _ c.take_dir.ensures.asked

pub returns-in_err-push-clause-same : goal.returns-in_err-push-clause-same
returns-in_err-push-clause-same g c =
    names_same g.S.System.forest g.S.Dir.Input g.S.System.opens_dir g.met.S.System.names_law c.args.folder.now.path.now c.args.path.now
    c.args.syscalls.now.system c.take_dir.new.syscalls.system c.as_str.result.now c.in_ok-text.ensures.named (c.as_str.ensures.value
    ∙ c.in_ok-text.ensures.text) c.requires _ c.take_dir.ensures.asked

pub returns-in_err-take_dir-clause-kept : goal.returns-in_err-take_dir-clause-kept
returns-in_err-take_dir-clause-kept g c =
    let folder = c.args.folder.now.path.now in
    let p = c.args.path.now in
    let text : c.as_str.result.now ≡ entry_text folder p = c.as_str.ensures.value ∙ c.in_ok-text.ensures.text in
    let r = c.from_residual-in_err-take_dir.result in
    let last = c.take_dir.new.syscalls.last.failure in
    let named = IsOfNames c.as_str.result.now in
    kept_weaker r last named _ (λ f is. inl (inr (subst (λ t. IsOfNames t f) text is)))
    (kept_on r c.in_err-take_dir.field-0.0 (IfSome last named) c.from_residual-in_err-take_dir.ensures.1 c.in_err-take_dir.ensures.kept)

pub returns-clause-kept : goal.returns-clause-kept
returns-clause-kept g c =
    let looks = g.S.System.looks in
    kept_weaker c.with_kinds.result c.with_kinds.new.syscalls.last.failure (IsOfEntry looks (string_bytes c.if-not-is_empty.text)) _
    (λ f is. inr (subst (λ front. IsOfEntry looks front f) (begins g c) is)) c.with_kinds.ensures.kept

pub returns-in_err-text-clause-kept : goal.returns-in_err-text-clause-kept
returns-in_err-text-clause-kept g c =
    let r = c.from_residual.result in
    let last = c.text_with_room.new.last.failure in
    let unasked = IsUnasked c.args.folder.now.path.now in
    kept_weaker r last unasked _ (λ f is. inl (inl is))
    (kept_held r last unasked (kept_on r c.in_err-text.field-0.0 (IsSomeAnd last unasked) c.from_residual.ensures.1 c.in_err-text.ensures.kept))

pub returns-clause-still : goal.returns-clause-still
returns-clause-still g c = still_on g.S.System.failing c.args.syscalls.now.system c.take_dir.new.syscalls.system c.with_kinds.new.syscalls.system
    (opens_still g.S.System.failing g.met.S.System.fails_still_law.listed c.args.syscalls.now.system c.take_dir.new.syscalls.system c.as_str.result.now
    c.take_dir.ensures.asked) c.with_kinds.ensures.still

pub returns-in_err-take_dir-clause-still : goal.returns-in_err-take_dir-clause-still
returns-in_err-take_dir-clause-still g c = opens_still g.S.System.failing g.met.S.System.fails_still_law.listed c.args.syscalls.now.system
    c.take_dir.new.syscalls.system c.as_str.result.now c.take_dir.ensures.asked

pub returns-in_err-push-clause-still : goal.returns-in_err-push-clause-still
returns-in_err-push-clause-still g c = opens_still g.S.System.failing g.met.S.System.fails_still_law.listed c.args.syscalls.now.system
    c.take_dir.new.syscalls.system c.as_str.result.now c.take_dir.ensures.asked

use Rattle.std.proofs.Common.{rules, ◌+◌, ◌∙◌, length, drop, string_bytes, sym, subst}
use Rattle.std.specs.Prelude.{Ok, Err}
use Rattle.std.proofs.lemmas.Fn.{FoldsTo-push}
use Rattle.std.proofs.lemmas.Iterator.Adapters.{YieldsList-from_vec}
use Rattle.std.proofs.lemmas.Iterator.Consumers.{YieldsList-so_far, YieldsList-turn}
use Rattle.std.specs.List.{FoldsTo}
use Rattle.pt_folder.specs.Listing.{LooksAt, LooksIn}
use Rattle.pt_folder.proofs.FailsStill.{looks_still, still_on}
use Rattle.pt_folder.proofs.Looking.{item_here, looked_one, looks_fail, names_more, rises_not}
use Rattle.pt_folder.proofs.Names.{err_due}
use Rattle.pt_folder.proofs.Seen.{on_err, sees_fail, sees_more}
use Rattle.pt_folder.proofs.listing.with_kinds.Goals as goal

pub loop-name-preserved : goal.loop-name-preserved
loop-name-preserved g c =
    let front = string_bytes c.args.text in
    let looks = g.S.System.looks in
    let old = c.args.syscalls.now.system in
    let mid = c.loop-name.syscalls.system in
    let new = c.kind_in.new.syscalls.system in
    let name = c.in-Some.name in
    let kind = c.in_ok-kind.kind in
    let inv = c.loop-name.invariant in
    let added = c.in_ok-add_entry.ensures.added in
    let asked = subst (λ t. LooksIn looks t name mid new (Ok kind)) inv.text c.in_ok-kind.ensures.asked in
    let more = FoldsTo-push (LooksAt looks front) old c.loop-name.listing mid (name, kind) new inv.looked (looked_one looks front mid new name kind asked) in
    record {
      can = search rules;
      ends = search rules;
      names = names_more c.loop-name.listing c.add_entry.new.listing c.loop-name.yielded name kind inv.names added;
      text = c.in_ok-kind.ensures.text ∙ inv.text;
      seen = sees_more g.S.System.forest looks g.met.S.System.look_law front old mid new c.loop-name.listing c.add_entry.new.listing name kind inv.seen
          c.in_ok-kind.ensures.named asked added;
      still = still_on g.S.System.failing old mid new inv.still
          (looks_still g.S.System.failing g.met.S.System.fails_still_law.looked front mid new name (Ok kind) asked);
      looked = subst (λ l. FoldsTo (LooksAt looks front) old l new) (sym added) more;
    }

pub returns-in_err-kind-clause-fault : goal.returns-in_err-kind-clause-fault
returns-in_err-kind-clause-fault g c =
    let front = string_bytes c.args.text in
    let looks = g.S.System.looks in
    let mid = c.loop-name.syscalls.system in
    let new = c.kind_in.new.syscalls.system in
    let name = c.in-Some.name in
    let fault = c.in_err-kind.field-0.0 in
    let names = c.args.names.items in
    let yielded = c.loop-name.yielded in
    let inv = c.loop-name.invariant in
    let asked = subst (λ t. LooksIn looks t name mid new (Err fault)) inv.text c.in_err-kind.ensures.asked in
    let gives = YieldsList-from_vec names (search rules) (search rules) in
    let here = item_here names yielded name (YieldsList-so_far gives yielded c.loop-name.name-iterator c.loop-name.yielded_by)
    (YieldsList-turn gives yielded c.loop-name.name-iterator c.loop-name.yielded_by c.next.result c.next.new.self name c.in-Some.is c.next.ensures.steps) in
    err_due c.from_residual-in_err-kind.result fault _ c.from_residual-in_err-kind.ensures.1
    (looks_fail looks front names c.args.syscalls.now.system mid new c.loop-name.listing yielded (drop (length yielded + 1) names) name inv.names here
    inv.looked fault asked)

pub returns-in_err-add_entry-clause-fault : goal.returns-in_err-add_entry-clause-fault
returns-in_err-add_entry-clause-fault g c =
    let front = string_bytes c.args.text in
    let looks = g.S.System.looks in
    let mid = c.loop-name.syscalls.system in
    let new = c.kind_in.new.syscalls.system in
    let name = c.in-Some.name in
    let kind = c.in_ok-kind.kind in
    let fault = c.in_err-add_entry.field-0.0 in
    let names = c.args.names.items in
    let yielded = c.loop-name.yielded in
    let inv = c.loop-name.invariant in
    let asked = subst (λ t. LooksIn looks t name mid new (Ok kind)) inv.text c.in_ok-kind.ensures.asked in
    let gives = YieldsList-from_vec names (search rules) (search rules) in
    let here = item_here names yielded name (YieldsList-so_far gives yielded c.loop-name.name-iterator c.loop-name.yielded_by)
    (YieldsList-turn gives yielded c.loop-name.name-iterator c.loop-name.yielded_by c.next.result c.next.new.self name c.in-Some.is c.next.ensures.steps) in
    err_due c.from_residual-in_err-add_entry.result fault _ c.from_residual-in_err-add_entry.ensures.1
    (rises_not looks front names c.args.syscalls.now.system mid new c.loop-name.listing yielded (drop (length yielded + 1) names) name inv.names here inv.looked
    kind fault (looked_one looks front mid new name kind asked) c.in_err-add_entry.ensures.fault)

pub returns-in_err-kind-clause-same : goal.returns-in_err-kind-clause-same
returns-in_err-kind-clause-same g c =
    let looks = g.S.System.looks in
    let mid = c.loop-name.syscalls.system in
    let new = c.kind_in.new.syscalls.system in
    let name = c.in-Some.name in
    let inv = c.loop-name.invariant in
    let asked = subst (λ t. LooksIn looks t name mid new c.kind_in.result) inv.text c.kind_in.ensures.asked in
    on_err c.from_residual-in_err-kind.result _ (sees_fail g.S.System.forest looks g.met.S.System.look_law (string_bytes c.args.text) c.args.syscalls.now.system
    mid new c.loop-name.listing name c.kind_in.result inv.seen c.kind_in.ensures.named asked)

pub returns-in_err-add_entry-clause-same : goal.returns-in_err-add_entry-clause-same
returns-in_err-add_entry-clause-same g c =
    let looks = g.S.System.looks in
    let mid = c.loop-name.syscalls.system in
    let new = c.kind_in.new.syscalls.system in
    let name = c.in-Some.name in
    let inv = c.loop-name.invariant in
    let asked = subst (λ t. LooksIn looks t name mid new c.kind_in.result) inv.text c.kind_in.ensures.asked in
    on_err c.from_residual-in_err-add_entry.result _ (sees_fail g.S.System.forest looks g.met.S.System.look_law (string_bytes c.args.text)
    c.args.syscalls.now.system mid new c.loop-name.listing name c.kind_in.result inv.seen c.kind_in.ensures.named asked)

pub returns-in_err-kind-clause-still : goal.returns-in_err-kind-clause-still
returns-in_err-kind-clause-still g c =
    let looks = g.S.System.looks in
    let mid = c.loop-name.syscalls.system in
    let new = c.kind_in.new.syscalls.system in
    let name = c.in-Some.name in
    let inv = c.loop-name.invariant in
    let asked = subst (λ t. LooksIn looks t name mid new c.kind_in.result) inv.text c.kind_in.ensures.asked in
    still_on g.S.System.failing c.args.syscalls.now.system mid new inv.still
    (looks_still g.S.System.failing g.met.S.System.fails_still_law.looked (string_bytes c.args.text) mid new name c.kind_in.result asked)

pub returns-in_err-add_entry-clause-still : goal.returns-in_err-add_entry-clause-still
returns-in_err-add_entry-clause-still g c =
    let looks = g.S.System.looks in
    let mid = c.loop-name.syscalls.system in
    let new = c.kind_in.new.syscalls.system in
    let name = c.in-Some.name in
    let inv = c.loop-name.invariant in
    let asked = subst (λ t. LooksIn looks t name mid new c.kind_in.result) inv.text c.kind_in.ensures.asked in
    still_on g.S.System.failing c.args.syscalls.now.system mid new inv.still
    (looks_still g.S.System.failing g.met.S.System.fails_still_law.looked (string_bytes c.args.text) mid new name c.kind_in.result asked)

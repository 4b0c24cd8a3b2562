use Rattle.std.proofs.Common.{ap, false, subst, ℕ, List, ◌≡◌, ◌∙◌, [], Some}
use Rattle.std.specs.Option.{ForSome}
use Rattle.pt_walk.specs.Left.{bytes_at}
use Rattle.std.specs.Prelude.{Bool, IfOk, OnOk, Result, Ok, Err, string_bytes}
use Rattle.pt_check.specs.Shares.{is_own_way}
use Rattle.pt_check.specs.Visits.{Finds, Looks, ReadsPrefix, TellsUnlisted, check_state, prefix_path, tree_by}
use Rattle.pt_plan.specs.Store.{prefix_file}
use Rattle.pt_plan.specs.TurnStart.{kind_in}
use Rattle.pt_tree.specs.Failing.{failing_paths}
use Rattle.pt_tree.specs.Forest.{Forest, listing_at}
use Rattle.pt_tree.specs.Path.{Path}
use Rattle.pt_check.proofs.Keeping.{keeps_on}
use Rattle.pt_check.proofs.Stepping.{checked, checked_nothing, looked_all}
use Rattle.pt_check.proofs.Visiting.{in_same}
use Rattle.pt_check.proofs.checking.Check.check_all.Goals as goal

-- what follows of a value that is answered
of_answer : {T E : Type 0} (r : Result T E) (P R : T → Type 0) (Q : Type 0) → IfOk r P → OnOk r Q → ((x : T) → P x → Q → R x) → IfOk r R
of_answer (Ok x) P R Q p q f = f x p q
of_answer (Err e) P R Q p q f = tt

pub look_at_prefix-requires : goal.look_at_prefix-requires
look_at_prefix-requires g c =
    let there = rw c.in-Entries.is at c.in_ok-found.ensures.listed in
    let listed : ForSome (tree_by g.S.Source.told c.args.self.now) (λ t. listing_at t [] ≡ Some c.in-Entries.found.listing) =
    subst (λ (p : Path). ForSome (tree_by g.S.Source.told c.args.self.now) (λ t. listing_at t p ≡ Some c.in-Entries.found.listing)) c.new-top.ensures there in
    in_same (λ (t : Forest). listing_at t [] ≡ Some c.in-Entries.found.listing) (tree_by g.S.Source.told c.args.self.now)
    (tree_by g.S.Source.told c.list.new.self) c.list.ensures.keeps.tree listed

pub look-requires : goal.look-requires
look-requires g c =
    let there = rw c.in-Entries.is at c.in_ok-found.ensures.listed in
    let listed : ForSome (tree_by g.S.Source.told c.args.self.now) (λ t. listing_at t [] ≡ Some c.in-Entries.found.listing) =
    subst (λ (p : Path). ForSome (tree_by g.S.Source.told c.args.self.now) (λ t. listing_at t p ≡ Some c.in-Entries.found.listing)) c.new-top.ensures there in
    in_same (λ (t : Forest). listing_at t [] ≡ Some c.in-Entries.found.listing) (tree_by g.S.Source.told c.args.self.now)
    (tree_by g.S.Source.told c.look_at_prefix.new.self)
    (c.look_at_prefix.ensures.keeps.tree ∙ c.list.ensures.keeps.tree) listed

pub returns-in_err-prefix-in-Entries-clause-keeps : goal.returns-in_err-prefix-in-Entries-clause-keeps
returns-in_err-prefix-in-Entries-clause-keeps g c = keeps_on g.S.Source g.L.Log g.met.S.Source.keeps_on g.met.L.Log.keeps_on _ _ _ c.list.ensures.keeps
    c.look_at_prefix.ensures.keeps

pub returns-in_err-look-in-Entries-clause-keeps : goal.returns-in_err-look-in-Entries-clause-keeps
returns-in_err-look-in-Entries-clause-keeps g c =
    let on = keeps_on g.S.Source g.L.Log g.met.S.Source.keeps_on g.met.L.Log.keeps_on in
    on _ _ _ (on _ _ _ c.list.ensures.keeps c.look_at_prefix.ensures.keeps) c.look.ensures.keeps

pub returns-in-Entries-clause-checked : goal.returns-in-Entries-clause-checked
returns-in-Entries-clause-checked g c =
    let says = g.E.Explains.says in
    let share = c.args.self.now.share in
    let own = is_own_way share [] in
    let mine : c.in_ok-own.own ≡ own = c.in_ok-own.ensures ∙ ap (λ (p : Path). is_own_way share p) c.new-top.ensures in
    let state = check_state {S = g.row.S.Denot} {L = g.row.L.Denot} {E = g.row.E.Denot} g.S.Source g.L.Log in
    let a = state c.args.self.now in
    let m = state c.list.new.self in
    let n = state c.look_at_prefix.new.self in
    let last = state c.look.new.self in
    let part = c.in-Entries.found.is_whole in
    let there = rw c.in-Entries.is at c.in_ok-found.ensures.listed in
    let first : ForSome (tree_by g.S.Source.told c.args.self.now) (λ t. listing_at t [] ≡ Some c.in-Entries.found.listing) =
    subst (λ (p : Path). ForSome (tree_by g.S.Source.told c.args.self.now) (λ t. listing_at t p ≡ Some c.in-Entries.found.listing)) c.new-top.ensures there in
    let listed = in_same (λ (t : Forest). listing_at t [] ≡ Some c.in-Entries.found.listing) (tree_by g.S.Source.told c.args.self.now)
    (tree_by g.S.Source.told c.list.new.self) c.list.ensures.keeps.tree first in
    let before = c.look_at_prefix.new.self in
    let looks_so = subst (λ (p : List ℕ). ForSome (tree_by g.S.Source.told before) (λ t. Looks says before.share before.wants c.in_ok-own.own p t n last))
    c.as_str.ensures.value c.in_ok-look-in-Entries.ensures.looked in
    let looks = subst (λ (o : Bool). ForSome (tree_by g.S.Source.told before) (λ t. Looks says before.share before.wants o
    (string_bytes c.in_ok-prefix-in-Entries.prefix) t n last)) mine looks_so in
    let reads = subst (λ (o : Bool). ForSome (tree_by g.S.Source.told c.list.new.self) (λ t. ReadsPrefix o (kind_in c.in-Entries.found.listing prefix_file)
    (bytes_at t prefix_path) (string_bytes c.in_ok-prefix-in-Entries.prefix) m n)) mine c.in_ok-prefix-in-Entries.ensures.looked in
    let finds : Finds says [] part a m =
    subst (λ (p : Path). Finds says p part a m) c.new-top.ensures (rw c.in-Entries.is at c.in_ok-found.ensures.found) in
    of_answer c.tell_numbers.result _ _ _ c.tell_numbers.ensures.numbers c.tell_numbers.ensures.told
    (λ numbers is held. checked says share c.list.new.self.share (tree_by g.S.Source.told c.args.self.now) (tree_by g.S.Source.told c.list.new.self)
    c.args.self.now.wants c.list.new.self.wants numbers part a m last (state c.tell_numbers.new.self)
    c.list.ensures.keeps.tree c.list.ensures.keeps.wants c.list.ensures.keeps.share finds
    (looked_all says own c.list.new.self.share before.share (tree_by g.S.Source.told c.list.new.self) (tree_by g.S.Source.told before)
    c.list.new.self.wants before.wants (string_bytes c.in_ok-prefix-in-Entries.prefix) c.in-Entries.found.listing m n last listed
    c.look_at_prefix.ensures.keeps.tree c.look_at_prefix.ensures.keeps.wants c.look_at_prefix.ensures.keeps.share reads looks) is
    (ap (λ s. failing_paths (g.S.Source.failing s)) c.tell_numbers.ensures.source) (ap g.S.Source.failed c.tell_numbers.ensures.source)
    c.tell_numbers.ensures.counted c.tell_numbers.ensures.unmet held)

pub returns-in-Entries-clause-keeps : goal.returns-in-Entries-clause-keeps
returns-in-Entries-clause-keeps g c =
    let on = keeps_on g.S.Source g.L.Log g.met.S.Source.keeps_on g.met.L.Log.keeps_on in
    on _ _ _ (on _ _ _ (on _ _ _ c.list.ensures.keeps c.look_at_prefix.ensures.keeps) c.look.ensures.keeps) c.tell_numbers.ensures.keeps

pub returns-clause-checked : goal.returns-clause-checked
returns-clause-checked g c =
    let says = g.E.Explains.says in
    let share = c.args.self.now.share in
    let mine : c.in_ok-own.own ≡ is_own_way share [] = c.in_ok-own.ensures ∙ ap (λ (p : Path). is_own_way share p) c.new-top.ensures in
    let a = check_state g.S.Source g.L.Log c.args.self.now in
    let last = check_state g.S.Source g.L.Log c.list.new.self in
    let there = rw c.in-Nothing.is at c.in_ok-found.ensures.listed in
    let told : TellsUnlisted says [] false a last =
    subst (λ (p : Path). TellsUnlisted says p false a last) c.new-top.ensures there in
    of_answer c.tell_numbers-in-Nothing.result _ _ _ c.tell_numbers-in-Nothing.ensures.numbers c.tell_numbers-in-Nothing.ensures.told
    (λ numbers is held. checked_nothing says share (tree_by g.S.Source.told c.args.self.now) c.args.self.now.wants numbers a last
    (check_state g.S.Source g.L.Log c.tell_numbers-in-Nothing.new.self) told is
    (ap (λ s. failing_paths (g.S.Source.failing s)) c.tell_numbers-in-Nothing.ensures.source) (ap g.S.Source.failed c.tell_numbers-in-Nothing.ensures.source)
    c.tell_numbers-in-Nothing.ensures.counted c.tell_numbers-in-Nothing.ensures.unmet held)

pub returns-clause-keeps : goal.returns-clause-keeps
returns-clause-keeps g c = keeps_on g.S.Source g.L.Log g.met.S.Source.keeps_on g.met.L.Log.keeps_on _ _ _ c.list.ensures.keeps
    c.tell_numbers-in-Nothing.ensures.keeps

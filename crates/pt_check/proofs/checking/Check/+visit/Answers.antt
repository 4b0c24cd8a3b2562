use Rattle.std.proofs.Common.{arith, ap, refl, sym, subst, cond, ℕ, Bool, List, ◌≡◌, ◌∙◌, ◌-◌, Some}
use Rattle.std.specs.Option.{ForSome}
use Rattle.pt_check.specs.Shares.{is_walked}
use Rattle.pt_check.specs.Visits.{
  Finds,
  Folder,
  Judges,
  Keeps,
  Meets,
  OpensIf,
  VisitsFolder,
  Where,
  begun,
  check_state,
  ended,
  holder_in,
  tree_by,
}
use Rattle.pt_check.specs.declared.checking.Check.{Check}
use Rattle.pt_check.specs.declared.numbers.Numbers.{Numbers}
use Rattle.pt_check.specs.declared.wants.Wants.{Wants}
use Rattle.pt_check.specs.declared.within.Within.{Within}
use Rattle.pt_check.proofs.Found.{IsFound, finding_is, found_are, held_own, held_within, inside_within}
use Rattle.pt_name.specs.Share.{Portion}
use Rattle.pt_tree.specs.Forest.{listing_at}
use Rattle.pt_tree.specs.Path.{Path}
use Rattle.pt_tree.specs.Source.{tree_in}
use Rattle.pt_walk.specs.Left.{bytes_at, inside_at}
use Rattle.pt_check.proofs.Keeping.{ends_on, keeps_on, meets_on, met_by, recounted}
use Rattle.pt_check.proofs.Visiting.{all_step, begins, dir_step, dir_there, goes_past, leaf_step, leaf_there}
use Rattle.pt_check.proofs.checking.Check.+visit.Goals.{then-branch+in_ok-visit, else-branch}
use Rattle.pt_check.proofs.checking.Check.+visit.Goals as goal

pub returns-in_err-judge_found-clause-keeps : goal.returns-in_err-judge_found-clause-keeps
returns-in_err-judge_found-clause-keeps g t c =
    let on = keeps_on g.S.Source g.L.Log g.met.S.Source.keeps_on g.met.L.Log.keeps_on in
    let meets = meets_on g.S.Source g.L.Log g.met.S.Source.is_kept g.met.L.Log.is_kept c.list.new.self c.find.new.self _ c.find.ensures.rest in
    on _ _ _ (on _ _ _ c.list.ensures.keeps meets) c.judge_found.ensures.keeps

pub loop-i-init : goal.loop-i-init
loop-i-init g t c =
    let on = keeps_on g.S.Source g.L.Log g.met.S.Source.keeps_on g.met.L.Log.keeps_on in
    let meets = meets_on g.S.Source g.L.Log g.met.S.Source.is_kept g.met.L.Log.is_kept c.list.new.self c.find.new.self _ c.find.ensures.rest in
    record {
      keeps = on _ _ _ (on _ _ _ c.list.ensures.keeps meets) c.judge_found.ensures.keeps;
      unfailed = c.in_ok-judge_found.ensures.fault ∙ ap (λ s. g.L.Log.failed s.log) c.find.ensures.rest ∙ c.in_ok-found.ensures.fault;
      visited = λ tree is last all. all;
    }

pub unreachable-requires : goal.unreachable-requires
unreachable-requires g t c = goes_past c.in-Entries.found.listing c.loop-i.i (omega (arith, c.len-i-end.ensures.len, c.loop-i-test.true))
    (sym c.in_default-get.ensures)

pub returns-in_err-bytes-clause-keeps : goal.returns-in_err-bytes-clause-keeps
returns-in_err-bytes-clause-keeps g t c =
    keeps_on g.S.Source g.L.Log g.met.S.Source.keeps_on g.met.L.Log.keeps_on _ _ _ c.loop-i.invariant.keeps c.meet.ensures.keeps

pub returns-in_err-is_walked-clause-keeps : goal.returns-in_err-is_walked-clause-keeps
returns-in_err-is_walked-clause-keeps g t c =
    let on = keeps_on g.S.Source g.L.Log g.met.S.Source.keeps_on g.met.L.Log.keeps_on in
    let starts = ends_on g.S.Source g.L.Log g.met.S.Source.is_kept g.met.L.Log.is_kept c.meet.new.self c.begin-before.new.self _
    c.begin-before.ensures.rest in
    on _ _ _ (on _ _ _ c.loop-i.invariant.keeps c.meet.ensures.keeps) starts

pub visit-requires : goal.visit-requires
visit-requires g t c κs within =
    let here = g.S.Source.told c.args.self.now.source in
    let listed : ForSome (tree_in here) (λ t. listing_at t c.args.path.now ≡ Some c.in-Entries.found.listing) =
    rw c.in-Entries.is at c.in_ok-found.ensures.listed in
    let starts = ends_on g.S.Source g.L.Log g.met.S.Source.is_kept g.met.L.Log.is_kept c.meet.new.self c.begin-before.new.self _
    c.begin-before.ensures.rest in
    let same_tree = starts.tree ∙ c.meet.ensures.keeps.tree ∙ c.loop-i.invariant.keeps.tree in
    let stands = dir_there here (g.met.S.Source.proper c.args.self.now.source) c.args.path.now c.in_ok-entry.entry c.in-Entries.found.listing c.loop-i.i
    c.in-Some.name.now c.in-Some.kind
    (tree_by g.S.Source.told c.begin-before.new.self) listed (sym c.in-Some.ensures) c.in-Dir.is c.in_ok-entry.ensures same_tree in
    (omega (arith, c.if-left-eq0.false, c.requires.1.0), (within.0, (within.1.0, (within.1.1, stands))))

pub returns-in_err-visit-clause-keeps : goal.returns-in_err-visit-clause-keeps
returns-in_err-visit-clause-keeps g t c =
    let on = keeps_on g.S.Source g.L.Log g.met.S.Source.keeps_on g.met.L.Log.keeps_on in
    let starts = ends_on g.S.Source g.L.Log g.met.S.Source.is_kept g.met.L.Log.is_kept c.meet.new.self c.begin-before.new.self _
    c.begin-before.ensures.rest in
    on _ _ _ (on _ _ _ (on _ _ _ c.loop-i.invariant.keeps c.meet.ensures.keeps) starts) c.visit.ensures.keeps

pub loop-i-preserved-in-Dir : goal.loop-i-preserved-in-Dir
loop-i-preserved-in-Dir g t c =
    let on = keeps_on g.S.Source g.L.Log g.met.S.Source.keeps_on g.met.L.Log.keeps_on in
    let kept = ends_on g.S.Source g.L.Log g.met.S.Source.is_kept g.met.L.Log.is_kept in
    let counts = recounted g.S.Source g.L.Log in
    let begin = c.begin-before.new.self in
    let after = c.if-branch.self in
    let starts = kept c.meet.new.self begin _ c.begin-before.ensures.rest in
    let so_far = on _ _ _ (on _ _ _ c.loop-i.invariant.keeps c.meet.ensures.keeps) starts in
    let here = g.S.Source.told c.args.self.now.source in
    let listed : ForSome (tree_in here) (λ t. listing_at t c.args.path.now ≡ Some c.in-Entries.found.listing) =
    rw c.in-Entries.is at c.in_ok-found.ensures.listed in
    let folder : Folder = record { path = c.args.path.now; prefix = c.args.prefix.now; here = c.args.part.within; left = c.args.left } in
    let at : Path × List ℕ = (c.args.path.now, c.args.prefix.now) in
    let of = c.in_ok-folder.folder in
    let seen = of.finding in
    let share = c.args.self.now.share in
    let wants = c.args.self.now.wants in
    let entry = c.in_ok-entry.entry in
    let inside = c.child-inside.result in
    let found : IsFound share wants at c.args.part of = found_are share c.list.new.self.share wants c.list.new.self.wants at c.args.part
    c.in-Entries.found.is_whole c.in-Entries.found.listing of c.list.ensures.keeps.share c.list.ensures.keeps.wants c.in_ok-folder.ensures.found in
    let held : c.in_ok-held.held.within ≡ holder_in folder seen = held_within share wants at c.args.part c.in_ok-held.held of _ found c.in_ok-held.ensures in
    let mine = held_own share c.loop-i.self.share wants at entry (c.in-Some.name.now, c.in-Some.kind) c.args.part c.in_ok-held.held of _
    c.loop-i.invariant.keeps.share found c.in_ok-held.ensures in
    let same_own : inside.own ≡ c.in_ok-held.held.own = ap (λ p. p.own) c.child-inside.ensures in
    let inside_is = inside_within share wants at entry c.in-Some.name.now c.in_ok-bytes.bytes c.args.part inside of _ found c.child-inside.ensures
    c.in_ok-bytes.ensures.length in
    let a = check_state g.S.Source g.L.Log c.loop-i.self in
    let m = check_state g.S.Source g.L.Log c.meet.new.self in
    let met_in = subst (λ (w : Wants). Where c.in_ok-held.held.own (Meets w entry c.in_ok-held.held.within (c.in-Some.name.now, c.in-Some.kind)) a m)
    c.loop-i.invariant.keeps.wants c.in_ok-bytes.ensures.met in
    let met = subst (λ (w : Within). Where c.in_ok-held.held.own (Meets wants entry w (c.in-Some.name.now, c.in-Some.kind)) a m) held met_in in
    let meets = subst (λ (o : Bool). Where o (Meets wants entry (holder_in folder seen) (c.in-Some.name.now, c.in-Some.kind)) a m) (sym same_own) met in
    let start_is = counts c.meet.new.self begin _ c.begin-before.ensures.rest (c.begin-before.ensures.numbers
    ∙ ap (λ (w : Within). begun inside.within w c.meet.new.self.numbers) held) in
    let end_is = counts after c.end.new.self _ c.end.ensures.rest (c.end.ensures.numbers
    ∙ ap (λ (n : Numbers). ended inside.within n after.numbers) c.begin-before.ensures.before) in
    let it : Folder = record { path = entry; prefix = c.args.prefix.now; here = inside.within; left = c.args.left - 1 } in
    let does = VisitsFolder g.E.Explains.says begin.share begin.wants inside.own it in
    let state = check_state {S = g.row.S.Denot} {L = g.row.L.Denot} {E = g.row.E.Denot} g.S.Source g.L.Log in
    let Comes = λ (s : Check g.row.S.Denot g.row.L.Denot g.row.E.Denot). ForSome (tree_by g.S.Source.told begin)
    (λ t. Where c.in_ok-is_walked.field-0 (does (inside_at t entry)) (state begin) (state s))
    × Keeps g.S.Source g.L.Log begin s × (g.L.Log.failed s.log ≡ g.L.Log.failed begin.log) in
    let visits : Comes after = elim c.if-branch.branch [
      | then-branch+in_ok-visit w ↦ subst Comes (sym w.self-is) (
        (λ t is. subst (λ (b : Bool). Where b (does (inside_at t entry)) (state begin) (state w.visit.new.self)) (sym w.if-branch.true)
            (w.in_ok-visit.ensures.visited t is)),
        w.visit.ensures.keeps,
        w.in_ok-visit.ensures.fault,
      )
      | else-branch w ↦ subst Comes (sym w.self-is) (
        (λ t is. subst (λ (b : Bool). Where b (does (inside_at t entry)) (state begin) (state begin)) (sym w.if-branch.false) refl),
        kept begin begin _ refl,
        refl,
      )
    ] in
    let walked = c.in_ok-is_walked.ensures ∙ ap (λ (s : Portion). is_walked s entry inside.within inside.own) so_far.share in
    record {
      keeps = on _ _ _ (on _ _ _ so_far visits.1) (kept after c.end.new.self _ c.end.ensures.rest);
      unfailed = ap (λ s. g.L.Log.failed s.log) c.end.ensures.rest ∙ visits.2 ∙ ap (λ s. g.L.Log.failed s.log) c.begin-before.ensures.rest
          ∙ c.in_ok-bytes.ensures.fault ∙ c.loop-i.invariant.unfailed;
      visited = dir_step g.E.Explains.says here (g.met.S.Source.proper c.args.self.now.source) share begin.share wants begin.wants c.args.part.own folder seen
          c.in-Entries.found.listing c.loop-i.i c.in-Some.name.now c.in-Some.kind entry inside.within inside.own c.in_ok-is_walked.field-0
          (state c.judge_found.new.self) a m (state begin) (state after) (state c.end.new.self) (tree_by g.S.Source.told begin)
          listed (sym c.in-Some.ensures) c.in-Dir.is c.in_ok-entry.ensures inside_is (same_own ∙ mine) walked c.loop-i.invariant.visited meets
          so_far.tree so_far.wants so_far.share start_is visits.0 end_is;
    }

pub visit_leaf-requires : goal.visit_leaf-requires
visit_leaf-requires g t c =
    let here = g.S.Source.told c.args.self.now.source in
    let listed : ForSome (tree_in here) (λ t. listing_at t c.args.path.now ≡ Some c.in-Entries.found.listing) =
    rw c.in-Entries.is at c.in_ok-found.ensures.listed in
    let same_tree = c.meet.ensures.keeps.tree ∙ c.loop-i.invariant.keeps.tree in
    leaf_there here (g.met.S.Source.proper c.args.self.now.source) c.args.path.now c.in_ok-entry.entry c.in-Entries.found.listing c.loop-i.i
    c.in-Some.name.now c.in-Some.kind
    (tree_by g.S.Source.told c.meet.new.self) listed (sym c.in-Some.ensures) c.in_ok-entry.ensures same_tree

pub returns-in_err-visit_leaf-clause-keeps : goal.returns-in_err-visit_leaf-clause-keeps
returns-in_err-visit_leaf-clause-keeps g t c =
    let on = keeps_on g.S.Source g.L.Log g.met.S.Source.keeps_on g.met.L.Log.keeps_on in
    on _ _ _ (on _ _ _ c.loop-i.invariant.keeps c.meet.ensures.keeps) c.visit_leaf.ensures.keeps

pub loop-i-preserved : goal.loop-i-preserved
loop-i-preserved g t c =
    let on = keeps_on g.S.Source g.L.Log g.met.S.Source.keeps_on g.met.L.Log.keeps_on in
    let so_far = on _ _ _ c.loop-i.invariant.keeps c.meet.ensures.keeps in
    let here = g.S.Source.told c.args.self.now.source in
    let listed : ForSome (tree_in here) (λ t. listing_at t c.args.path.now ≡ Some c.in-Entries.found.listing) =
    rw c.in-Entries.is at c.in_ok-found.ensures.listed in
    let folder : Folder = record { path = c.args.path.now; prefix = c.args.prefix.now; here = c.args.part.within; left = c.args.left } in
    let at : Path × List ℕ = (c.args.path.now, c.args.prefix.now) in
    let of = c.in_ok-folder.folder in
    let seen = of.finding in
    let share = c.args.self.now.share in
    let wants = c.args.self.now.wants in
    let entry = c.in_ok-entry.entry in
    let part = c.in_ok-held.held in
    let found : IsFound share wants at c.args.part of = found_are share c.list.new.self.share wants c.list.new.self.wants at c.args.part
    c.in-Entries.found.is_whole c.in-Entries.found.listing of c.list.ensures.keeps.share c.list.ensures.keeps.wants c.in_ok-folder.ensures.found in
    let held : part.within ≡ holder_in folder seen = held_within share wants at c.args.part part of _ found c.in_ok-held.ensures in
    let mine = held_own share c.loop-i.self.share wants at entry (c.in-Some.name.now, c.in-Some.kind) c.args.part part of _
    c.loop-i.invariant.keeps.share found c.in_ok-held.ensures in
    let state = check_state {S = g.row.S.Denot} {L = g.row.L.Denot} {E = g.row.E.Denot} g.S.Source g.L.Log in
    let a = state c.loop-i.self in
    let m = state c.meet.new.self in
    let b = state c.visit_leaf.new.self in
    let met_in = subst (λ (w : Wants). Where part.own (Meets w entry part.within (c.in-Some.name.now, c.in-Some.kind)) a m)
    c.loop-i.invariant.keeps.wants c.in_ok-bytes.ensures.met in
    let meets = subst (λ (w : Within). Where part.own (Meets wants entry w (c.in-Some.name.now, c.in-Some.kind)) a m) held met_in in
    let opens = subst (λ (w : Within). ForSome (tree_by g.S.Source.told c.meet.new.self) (λ t. Where part.own
    (OpensIf c.meet.new.self.wants.reads entry (w, c.in-Some.kind) (bytes_at t entry)) m b)) held c.in_ok-visit_leaf.ensures.opened in
    record {
      keeps = on _ _ _ so_far c.visit_leaf.ensures.keeps;
      unfailed = c.in_ok-visit_leaf.ensures.fault ∙ c.in_ok-bytes.ensures.fault ∙ c.loop-i.invariant.unfailed;
      visited = leaf_step g.E.Explains.says here (g.met.S.Source.proper c.args.self.now.source) share wants c.meet.new.self.wants c.args.part.own folder seen
          c.in-Entries.found.listing c.loop-i.i c.in-Some.name.now c.in-Some.kind entry part.own (state c.judge_found.new.self) a m b
          (tree_by g.S.Source.told c.meet.new.self) listed (sym c.in-Some.ensures) c.in_default-kind.not-Dir c.in_ok-entry.ensures mine
          c.loop-i.invariant.visited meets so_far.tree so_far.wants opens;
    }

pub returns-clause-visited : goal.returns-clause-visited
returns-clause-visited g t c =
    let here = g.S.Source.told c.args.self.now.source in
    let listed : ForSome (tree_in here) (λ t. listing_at t c.args.path.now ≡ Some c.in-Entries.found.listing) =
    rw c.in-Entries.is at c.in_ok-found.ensures.listed in
    let folder : Folder = record { path = c.args.path.now; prefix = c.args.prefix.now; here = c.args.part.within; left = c.args.left } in
    let at : Path × List ℕ = (c.args.path.now, c.args.prefix.now) in
    let of = c.in_ok-folder.folder in
    let share = c.args.self.now.share in
    let wants = c.args.self.now.wants in
    let items = c.in-Entries.found.listing in
    let whole = c.in-Entries.found.is_whole in
    let state = check_state {S = g.row.S.Denot} {L = g.row.L.Denot} {E = g.row.E.Denot} g.S.Source g.L.Log in
    let a = state c.args.self.now in
    let m = state c.list.new.self in
    let n = state c.find.new.self in
    let first = state c.judge_found.new.self in
    let found : IsFound share wants at c.args.part of = found_are share c.list.new.self.share wants c.list.new.self.wants at c.args.part
    whole items of c.list.ensures.keeps.share c.list.ensures.keeps.wants c.in_ok-folder.ensures.found in
    let seen = finding_is c.list.new.self.share wants c.list.new.self.wants at c.args.part whole items of c.list.ensures.keeps.wants
    c.in_ok-folder.ensures.found in
    let finds : Finds g.E.Explains.says c.args.path.now whole a m = rw c.in-Entries.is at c.in_ok-found.ensures.found in
    let meets = met_by g.S.Source g.L.Log c.list.new.self c.find.new.self share c.list.new.self.share wants c.list.new.self.wants at c.args.part.within
    whole items c.list.ensures.keeps.share c.list.ensures.keeps.wants c.find.ensures.rest c.in_ok-folder.ensures.met in
    let judged = subst (λ (w : Wants). cond whole (Where of.part.own (Judges w at of.part.within items) n first) (first ≡ n))
    (ap (λ s. s.wants) c.find.ensures.rest ∙ c.list.ensures.keeps.wants) c.in_ok-judge_found.ensures.judged in
    let judged_here = subst (λ (w : Within). cond whole (Where of.part.own (Judges wants at w items) n first) (first ≡ n)) found.within judged in
    all_step g.E.Explains.says here share wants c.args.part.own folder of.finding items c.loop-i.i a first (state c.loop-i.self)
    listed (omega (arith, c.len-i-end.ensures.len, c.loop-i-test.false)) c.if-left-eq0.false
    (begins g.E.Explains.says share wants c.args.part.own folder items whole of.part.own of.finding a m n first finds meets judged_here seen
    found.own)
    c.loop-i.invariant.visited

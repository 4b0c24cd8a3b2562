use Rattle.std.proofs.Common.{ap, subst, ◌≡◌, ◌∙◌, ℕ}
use Rattle.std.proofs.lemmas.Result.{on_ok_weaker}
use Rattle.std.specs.Prelude.{Bool, Option, length}
use Rattle.pt_check.specs.Visits.{CheckState, TellsIf, depth_of, finding_of, folder_trouble, is_renamed, reserved_trouble, check_state, with_folder}
use Rattle.pt_check.specs.declared.trouble.Trouble.{Trouble}
use Rattle.pt_name.specs.Tuples.{Tuples}
use Rattle.pt_walk.specs.declared.site.Finding.{Finding}
use Rattle.pt_check.proofs.Keeping.{ends_on, keeps_on, recounted}
use Rattle.pt_check.proofs.checking.Check.judge.Goals as goal

pub returns-in_err-trouble-clause-keeps : goal.returns-in_err-trouble-clause-keeps
returns-in_err-trouble-clause-keeps g c = ends_on g.S.Source g.L.Log g.met.S.Source.is_kept g.met.L.Log.is_kept c.args.self.now c.count.new.self _
    c.count.ensures.rest

pub returns-in_err-tell_if-2-clause-keeps : goal.returns-in_err-tell_if-2-clause-keeps
returns-in_err-tell_if-2-clause-keeps g c =
    let on = keeps_on g.S.Source g.L.Log g.met.S.Source.keeps_on g.met.L.Log.keeps_on in
    let counts = ends_on g.S.Source g.L.Log g.met.S.Source.is_kept g.met.L.Log.is_kept c.args.self.now c.count.new.self _ c.count.ensures.rest in
    on _ _ _ (on _ _ _ counts c.tell_if.ensures.keeps) c.tell_if-2.ensures.keeps

pub returns-clause-judged : goal.returns-clause-judged
returns-clause-judged g c = on_ok_weaker c.tell_if-3.result (λ told.
    let path = c.args.path.now in
    let what = finding_of c.args.self.now.wants.form c.args.folder.part.within c.args.listing.now in
    let a = check_state g.S.Source g.L.Log c.args.self.now in
    let n = check_state g.S.Source g.L.Log c.count.new.self in
    let m = check_state g.S.Source g.L.Log c.tell_if.new.self in
    let o = check_state g.S.Source g.L.Log c.tell_if-2.new.self in
    let b = check_state g.S.Source g.L.Log c.tell_if-3.new.self in
    let depth : length c.names_below-depth.result.now ≡ depth_of path = ap length c.names_below-depth.ensures in
    let renamed : c.in_ok-renamed.renamed ≡ is_renamed path c.args.listing.now what =
    c.in_ok-renamed.ensures ∙ ap (is_renamed path c.args.listing.now) c.requires in
    let counts = recounted g.S.Source g.L.Log c.args.self.now c.count.new.self _ c.count.ensures.rest (c.count.ensures.numbers
    ∙ ap (λ (f : Finding). with_folder (length c.names_below-depth.result.now) c.in_ok-renamed.renamed c.args.folder.part.within f a.numbers) c.requires
    ∙ ap (λ (n : ℕ). with_folder n c.in_ok-renamed.renamed c.args.folder.part.within what a.numbers) depth
    ∙ ap (λ (r : Bool). with_folder (depth_of path) r c.args.folder.part.within what a.numbers) renamed) in
    let layout : c.count.new.self.wants.layout ≡ c.args.self.now.wants.layout = ap (λ s. s.wants.layout) c.count.ensures.rest in
    let first = c.in_ok-trouble.ensures ∙ ap (λ (f : Finding). folder_trouble c.args.folder.part.within f path) c.requires in
    let second = c.in_ok-trouble-2.ensures ∙ ap (λ (f : Finding). reserved_trouble c.count.new.self.wants.layout c.args.prefix.now f path)
    c.requires
    ∙ ap (λ (l : Tuples). reserved_trouble l c.args.prefix.now what path) layout in
    let tells : TellsIf path (folder_trouble c.args.folder.part.within what path) n m = subst (λ (t : Option Trouble). TellsIf path t n m) first
    c.in_ok-tell_if.ensures.told in (
      m,
      subst (λ (s : CheckState). TellsIf path (folder_trouble c.args.folder.part.within what path) s m) counts tells,
      o,
      subst (λ (t : Option Trouble). TellsIf path t m o) second c.in_ok-tell_if-2.ensures.told,
      subst (λ (t : Option Trouble). TellsIf path t o b) c.width_trouble.ensures told,
    )) c.tell_if-3.ensures.told

pub returns-clause-keeps : goal.returns-clause-keeps
returns-clause-keeps g c =
    let on = keeps_on g.S.Source g.L.Log g.met.S.Source.keeps_on g.met.L.Log.keeps_on in
    let counts = ends_on g.S.Source g.L.Log g.met.S.Source.is_kept g.met.L.Log.is_kept c.args.self.now c.count.new.self _ c.count.ensures.rest in
    on _ _ _ (on _ _ _ (on _ _ _ counts c.tell_if.ensures.keeps) c.tell_if-2.ensures.keeps) c.tell_if-3.ensures.keeps

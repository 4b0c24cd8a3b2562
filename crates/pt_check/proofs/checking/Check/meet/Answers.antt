use Rattle.pt_check.proofs.Keeping.{keeps_counted, keeps_on}
use Rattle.pt_check.proofs.checking.Check.meet.Goals as goal

pub returns-in_err-tell_if-2-clause-keeps : goal.returns-in_err-tell_if-2-clause-keeps
returns-in_err-tell_if-2-clause-keeps g c =
    let first = keeps_counted g.S.Source g.L.Log c.args.self.now c.tell_if.new.self c.with_entry-self.result c.tell_if.ensures.keeps
    in
    keeps_on g.S.Source g.L.Log g.met.S.Source.keeps_on g.met.L.Log.keeps_on _ _ _ first c.tell_if-2.ensures.keeps

pub returns-in_err-tell_if-3-clause-keeps : goal.returns-in_err-tell_if-3-clause-keeps
returns-in_err-tell_if-3-clause-keeps g c =
    let on = keeps_on g.S.Source g.L.Log g.met.S.Source.keeps_on g.met.L.Log.keeps_on in
    let first = keeps_counted g.S.Source g.L.Log c.args.self.now c.tell_if.new.self c.with_entry-self.result c.tell_if.ensures.keeps
    in
    on _ _ _ (on _ _ _ first c.tell_if-2.ensures.keeps) c.tell_if-3.ensures.keeps

pub returns-clause-keeps : goal.returns-clause-keeps
returns-clause-keeps g c =
    let on = keeps_on g.S.Source g.L.Log g.met.S.Source.keeps_on g.met.L.Log.keeps_on in
    let first = keeps_counted g.S.Source g.L.Log c.args.self.now c.tell_if.new.self c.with_entry-self.result c.tell_if.ensures.keeps
    in
    on _ _ _ (on _ _ _ first c.tell_if-2.ensures.keeps) c.tell_if-3.ensures.keeps

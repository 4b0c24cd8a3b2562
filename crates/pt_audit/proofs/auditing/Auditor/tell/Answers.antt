use Rattle.std.proofs.Common.{ap, inl, refl, rules, subst, sym, ◌∙◌}
use Rattle.pt_audit.proofs.Saying.{
  has_layout,
  layout_fails,
  more_is_not_over,
  object_is_not_over,
  says_failed,
  says_layout,
  store_is_not_over,
}
use Rattle.pt_audit.proofs.Pacing.{at_sight, follows_told}
use Rattle.pt_audit.proofs.StepPromises.{all_kept, tells_err}
use Rattle.pt_audit.proofs.Telling.{end_at}
use Rattle.pt_audit.proofs.ToldSteps.{not_told, on_end, on_more, on_store}
use Rattle.pt_audit.proofs.ToldFront.{seen_stops}
use Rattle.pt_audit.specs.Auditing.{IsAt, is_told}
use Rattle.pt_audit.specs.Failing.{failures}
use Rattle.pt_tree.proofs.Growing.{grows_none}
use Rattle.pt_tree.specs.Source.{tree_in}
use Rattle.pt_audit.proofs.auditing.Auditor.tell.Goals as goal

pub check_layout-requires : goal.check_layout-requires
check_layout-requires g c = has_layout _ c.args.sight c.args.self.now.survey c.job.result.now c.job.ensures (at_sight c.requires)

pub returns-in_err-check_layout-in-Store : goal.returns-in_err-check_layout-in-Store
returns-in_err-check_layout-in-Store g c =
    let why = c.in_err-check_layout-in-Store.field-0.0 in
    let layout = c.in_err-check_layout-in-Store.ensures in record {
      told = tells_err c.from_residual.result why (search rules) (layout_fails why _ 0 _ _ _ layout.failures)
          (says_layout (g.S.Source.told c.args.source.now) _ c.args.self.now.survey why _ _ c.job.result.now c.job.ensures
          (subst (λ w. IsAt (g.S.Source.told c.args.source.now) w c.args.self.now.survey) c.in-Store.is (at_sight c.requires)) layout.layout layout.failures)
          (λ first it. seen_stops _ c.args.self.now.counts c.args.self.now.survey it);
      keeps = record {
        sides = record { source = (g.met.S.Source.is_kept _, refl); root = layout.root };
        log = (g.met.L.Log.is_kept _, grows_none _);
      };
    }

pub returns-in_err-counts-in-Object : goal.returns-in_err-counts-in-Object
returns-in_err-counts-in-Object g c =
    let why = c.in_err-counts-in-Object.field-0.0 in
    let object = c.in_err-counts-in-Object.ensures in record {
      told = tells_err c.from_residual-in_err-counts-in-Object.result why (search rules) (inl object.told.fails)
          (says_failed c.args.self.now.survey.state.job _ _ why _ _ object.told.fails) object.told.stops;
      keeps = object.keeps;
    }

pub returns-in_ok-check_layout-in-Store : goal.returns-in_ok-check_layout-in-Store
returns-in_ok-check_layout-in-Store g c =
    let layout = c.in_ok-check_layout-in-Store.ensures in record {
      told = record {
        on = λ first it.
            on_store {told = g.S.Source.told c.args.source.now} {root = tree_in (g.R.Source.told c.args.root.now)} {first = first}
            (g.L.Log.told c.args.log.now) c.args.self.now.counts c.args.self.now.survey c.job.result.now c.job.ensures layout.layout
            (subst (λ w. IsAt (g.S.Source.told c.args.source.now) w c.args.self.now.survey) c.in-Store.is (at_sight c.requires)) it;
        follows = search rules;
        ended = tt;
        more = store_is_not_over c.args.self.now.survey c.requires.saw c.in-Store.is;
        fails = ap (λ n. failures (g.S.Source.failed c.args.source.now) n (g.L.Log.failed c.args.log.now)) layout.failures;
        says = tt;
        stops = tt;
      };
      keeps = record {
        sides = record { source = (g.met.S.Source.is_kept _, refl); root = layout.root };
        log = (g.met.L.Log.is_kept _, grows_none _);
      };
    }

pub returns-in-More : goal.returns-in-More
returns-in-More g c = record {
  told = record {
    on = λ first it. on_more _ c.args.self.now.counts c.args.self.now.survey c.args.sight (not_told c.args.sight c.in-More.is) (at_sight c.requires) it;
    follows = c.requires.follows;
    ended = tt;
    more = more_is_not_over c.args.self.now.survey c.requires.saw c.in-More.is;
    fails = refl;
    says = tt;
    stops = tt;
  };
  keeps = all_kept g.met.S.Source.is_kept g.met.R.Source.is_kept g.met.L.Log.is_kept _;
}

pub returns-in_ok-counts-in-Object : goal.returns-in_ok-counts-in-Object
returns-in_ok-counts-in-Object g c =
    let object = c.in_ok-counts-in-Object.ensures in record {
      told = record {
        on = object.told.on;
        follows = follows_told _ _ _ _ c.args.self.now.beside c.args.self.now.survey c.args.sight c.requires.saw (ap is_told c.in-Object.is)
            object.keeps.sides.source.1 object.keeps.sides.root.1 object.told.still c.requires.follows;
        ended = tt;
        more = object_is_not_over c.args.self.now.survey c.requires.saw c.in-Object.is;
        fails = object.told.fails;
        says = tt;
        stops = tt;
      };
      keeps = object.keeps;
    }

pub returns-in-End : goal.returns-in-End
returns-in-End g c = record {
  told = record {
    on = λ first it. on_end _ c.args.sight _ first _ c.args.self.now.counts c.args.self.now.survey c.in-End.is (at_sight c.requires) it;
    follows = c.requires.follows;
    ended = end_at c.args.self.now.survey.phase (sym c.requires.saw ∙ c.in-End.is);
    more = tt;
    fails = refl;
    says = tt;
    stops = tt;
  };
  keeps = all_kept g.met.S.Source.is_kept g.met.R.Source.is_kept g.met.L.Log.is_kept _;
}

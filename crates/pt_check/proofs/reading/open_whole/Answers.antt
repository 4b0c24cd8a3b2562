use Rattle.std.proofs.lemmas.Result.{IfOk-weaker}
use Rattle.pt_check.proofs.Blocks.{is_opened, may_open}
use Rattle.pt_check.proofs.Goes.{opened_goes}
use Rattle.pt_check.proofs.reading.open_whole.Goals as goal

pub open-requires : goal.open-requires
open-requires g c = may_open (g.S.Source.told c.args.source.now) c.args.path.now c.requires

pub read_on-requires : goal.read_on-requires
read_on-requires g c = is_opened (g.S.Source.told c.args.source.now) (g.S.Source.told c.open.new.self) c.args.path.now c.requires c.in_ok-open.ensures.opened

pub returns-then-reads-clause-ended : goal.returns-then-reads-clause-ended
returns-then-reads-clause-ended g c =
    IfOk-weaker c.read_on.result _ _ (λ n goes reads few. opened_goes (g.S.Source.failing c.args.source.now) _ c.args.path.now _ c.in_ok-open.ensures.fails
    (goes few)) c.read_on.ensures.ended

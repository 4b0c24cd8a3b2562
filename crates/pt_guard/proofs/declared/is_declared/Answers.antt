use Rattle.std.proofs.Common.{◌≡◌, ◌∙◌, ◌++◌, ◌∷◌, ◌<◌, ◌↔◌, [], ap, arith, length, refl, subst, take, IsTrue}
use Rattle.std.specs.Io.KnownBytes.{Consumes}
use Rattle.std.proofs.KnownBytes.{Consumes-nil}
use Rattle.pt_guard.specs.Declaration.{HasPart, mark}
use Rattle.pt_guard.proofs.ReadThrough.{looked_through, reads_more}
use Rattle.pt_guard.proofs.declared.is_declared.Goals as goal

pub loop-init : goal.loop-init
loop-init g c =
    let started = c.in_ok-push.ensures.items ∙ ap (λ l. l ++ 0 ∷ []) c.new-names.ensures.items in
    record { read = ([], Consumes-nil (g.D.Read.remaining c.args.dir.now), started); piece = refl }

pub returns-then-count-eq0 : goal.returns-then-count-eq0
returns-then-count-eq0 g c =
    let buf = c.read.new.buf in
    let whole : length buf ≡ 8192 = c.read.auto.buf ∙ c.loop.invariant.piece in
    let room : 0 < length buf = omega (arith, whole) in
    let none = subst (λ n. Consumes (g.D.Read.remaining c.loop.dir) (g.D.Read.remaining c.read.new.self) (take n buf)) c.if-count-eq0.true
    c.in_ok-count.ensures.bytes.0 in
    let looked = subst (λ l. IsTrue c.has_mark.result ↔ HasPart mark l) c.as_slice.ensures.value c.has_mark.ensures in
    looked_through _ _ _ c.loop.names.items c.has_mark.result c.loop.invariant.read none (c.in_ok-count.ensures.bytes.1 c.if-count-eq0.true room) looked

pub loop-preserved : goal.loop-preserved
loop-preserved g c = record {
  read = reads_more _ _ _ c.loop.names.items c.extend_from_slice.new.self.items _ c.loop.invariant.read c.in_ok-count.ensures.bytes.0
      c.in_ok-extend_from_slice.ensures.items;
  piece = c.read.auto.buf ∙ c.loop.invariant.piece;
}

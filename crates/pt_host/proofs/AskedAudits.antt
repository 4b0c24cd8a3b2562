-- The audit that is asked for, by bytes or by lengths.
use Rattle.std.proofs.Common.{◌≡◌, List, ℕ, true, false, subst, sym}
use Rattle.std.specs.Prelude.{Bool, None, Option}
use Rattle.pt_host.specs.Audits.{AuditCall, AuditsBy, AuditsOver, AuditsSeen, FailedCalls, audit_call, failed_calls}
use Rattle.pt_host.specs.Durable.{LogFails}
use Rattle.pt_host.specs.Machine.{HostIoOf, HostIoWords, MachineWords}
use Rattle.pt_host.specs.SeenByLengths.{words_seen}
use Rattle.pt_host.specs.declared.host.HostIo.{HostIo}
use Rattle.pt_host.specs.declared.operation.Conclusion.{Conclusion}
use Rattle.pt_host.specs.declared.options.AuditOptions.{AuditOptions}
use Rattle.pt_tree.specs.Forest.{Forest}

module _ {H : Type 0} (words : MachineWords H) (asks : Option (List ℕ) → Type 0) (call : AuditCall) (old new : HostIoOf words) (end : Conclusion)
    (quick : Bool) where
  pub by_bytes : quick ≡ false → AuditsOver words.read (failed_calls words.fails (LogFails words.writes words.puts None)) call old new end
      → AuditsBy words asks call quick old new end
  by_bytes is made = subst (λ (b : Bool). AuditsBy words asks call b old new end) (sym is) made

  pub by_lengths : quick ≡ true
      → AuditsSeen (words_seen words.read) (failed_calls words.fails_seen (LogFails words.writes words.puts None)) call old new end
      → AuditsBy words asks call quick old new end
  by_lengths is made = subst (λ (b : Bool). AuditsBy words asks call b old new end) (sym is) made

-- an audit was made of what it was asked for, whatever that is called
pub audits_as : {S D W : Type 0} (words : HostIoWords S D W (Option Forest)) (failed : FailedCalls D W) (store folder : List ℕ)
    {made asked : AuditOptions} {was old : HostIo S D W} (new : HostIo S D W) (end : Conclusion) → made ≡ asked → was ≡ old
    → AuditsOver words failed (audit_call made store folder) was new end → AuditsOver words failed (audit_call asked store folder) old new end
audits_as {S} {D} {W} words failed store folder {made} {asked} {was} {old} new end asked_is old_is audits =
    subst (λ (o : AuditOptions). AuditsOver words failed (audit_call o store folder) old new end) asked_is
    (subst (λ (h : HostIo S D W). AuditsOver words failed (audit_call made store folder) h new end) old_is audits)

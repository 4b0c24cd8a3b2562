use Rattle.std.proofs.Common.{◌≡◌, ◌≤◌, ◌++◌, length, string_bytes, string_len, take, ◌∙◌, ap, subst}
use Rattle.std.proofs.Math.Seq.{take-append_seam}
use Rattle.pt_folder.proofs.Looking.{kept_entry, looks_err, looks_in}
use Rattle.pt_folder.proofs.Texts.{cut_before}
use Rattle.pt_folder.proofs.listing.kind_in.Goals as goal

pub truncate-requires : goal.truncate-requires
truncate-requires g c =
    let front = string_bytes c.args.text.now in
    let end : c.len-end.result ≡ length front = c.len-end.ensures ∙ c.args.text.now.bytes.ok.0 in
    let size : string_len c.push_str.new.self ≡ length (string_bytes c.push_str.new.self) = c.push_str.new.self.bytes.ok.0 in
    λ within. cut_before front c.name_text.result.now (string_bytes c.push_str.new.self) c.len-end.result c.name_text.utf8 c.in_ok-push_str.ensures.bytes end
    (subst (λ n. c.len-end.result ≤ n) size within)

pub returns-clause-text : goal.returns-clause-text
returns-clause-text g c =
    let front = string_bytes c.args.text.now in
    let end : c.len-end.result ≡ length front = c.len-end.ensures ∙ c.args.text.now.bytes.ok.0 in
    c.truncate.ensures.bytes ∙ ap (take c.len-end.result) c.in_ok-push_str.ensures.bytes ∙ ap (λ n. take n (front ++ c.name_text.result.now)) end
    ∙ take-append_seam front c.name_text.result.now

pub returns-clause-asked : goal.returns-clause-asked
returns-clause-asked g c =
    let front = string_bytes c.args.text.now in
    looks_in g.S.System.looks front c.args.syscalls.now.system c.own_kind.new.self.system c.args.name.now c.as_str.result.now _ (c.as_str.ensures.value
    ∙ c.in_ok-push_str.ensures.bytes ∙ ap (λ n. front ++ n) c.name_text.ensures.same) c.in_ok-kind.ensures.asked

pub returns-in_err-kind-clause-asked : goal.returns-in_err-kind-clause-asked
returns-in_err-kind-clause-asked g c =
    let front = string_bytes c.args.text.now in
    let name = c.args.name.now in
    let text : c.as_str.result.now ≡ front ++ name = c.as_str.ensures.value ∙ c.in_ok-push_str.ensures.bytes ∙ ap (λ n. front ++ n) c.name_text.ensures.same in
    looks_err g.S.System.looks front c.args.syscalls.now.system c.own_kind.new.self.system name c.from_residual-in_err-kind.result c.in_err-kind.field-0.0
    c.from_residual-in_err-kind.ensures.1
    (looks_in g.S.System.looks front c.args.syscalls.now.system c.own_kind.new.self.system name c.as_str.result.now _ text c.in_err-kind.ensures.asked)

pub returns-in_err-kind-clause-kept : goal.returns-in_err-kind-clause-kept
returns-in_err-kind-clause-kept g c =
    let front = string_bytes c.args.text.now in
    let name = c.args.name.now in
    let text : c.as_str.result.now ≡ front ++ name = c.as_str.ensures.value ∙ c.in_ok-push_str.ensures.bytes ∙ ap (λ n. front ++ n) c.name_text.ensures.same in
    kept_entry g.S.System.looks front name c.as_str.result.now c.from_residual-in_err-kind.result c.in_err-kind.field-0.0 c.own_kind.new.self.last.failure
    c.from_residual-in_err-kind.ensures.1 text c.in_err-kind.ensures.kept

use Rattle.std.proofs.Common.{◌≡◌, false, Some, sym, ◌∙◌, arith}
use Rattle.std.specs.Prelude.{codes}
use Rattle.std.proofs.lemmas.Bool.{false≢true}
use Rattle.std.proofs.lemmas.Bool.Decides.{nat_tests}
use Rattle.std.proofs.lemmas.Str.{is_utf8-from_IsUtf8}
use Rattle.com_net.specs.Description.{is_too_long, net_fault_of}
use Rattle.com_net.specs.declared.fault.NetKind.TheVariants as kind
use Rattle.com_net.proofs.Refusing.{refused_by}
use Rattle.com_net.proofs.Files.{no_document}
use Rattle.com_net.proofs.read.document_of.Goals as goal

pub returns-in-Ok-clause-document : goal.returns-in-Ok-clause-document
returns-in-Ok-clause-document c = rw (is_utf8-from_IsUtf8 c.args.bytes.now c.in-Ok.ensures.ok.0) c.in-Ok.ensures.ok.1

pub returns-in_ok-refusal_of_file-in-Err-clause-refused : goal.returns-in_ok-refusal_of_file-in-Err-clause-refused
returns-in_ok-refusal_of_file-in-Err-clause-refused c =
    let bytes = c.args.bytes.now in
    let short : is_too_long bytes ≡ false = grind (arith, nat_tests, c.if-bytes-gt-MAX_DESCRIPTION.false) in
    let none = no_document bytes short (λ text. c.in-Err.ensures.refused (λ memory. false≢true (sym c.if-is_memory.false ∙ c.is_memory.ensures.1 memory)) text) in
    refused_by (net_fault_of bytes) (Some (kind.NotToml, codes "file")) c.in_ok-refusal_of_file-in-Err.field-0 none c.in_ok-refusal_of_file-in-Err.ensures

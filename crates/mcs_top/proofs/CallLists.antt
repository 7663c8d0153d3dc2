-- The calls of a command, put together from its steps.
use Rattle.std.proofs.Common.{◌≡◌, ℕ, ◌+◌, ◌-◌, ◌≤◌, false, List, [], ◌∷◌, ◌++◌, length, map as list_map, true, Option, Some, None, refl, ap, sym, ◌∙◌, arith, append_assoc, append-nil, length-take}
use Rattle.std.specs.Prelude.{IfSome, IsSomeAnd, option_map}
use Rattle.std.specs.FinMap as map
use Rattle.std.specs.List.{flat_map}
use Rattle.com_io.specs.Files.{file_limit, bytes_read, with_reading}
use Rattle.com_io.specs.Stores.{StoreCall, Opened, Closed, Writing, Contents, Shown, with_output, output_name}
use Rattle.com_net.specs.declared.net.UnitRow.{UnitRow}
use Rattle.cob_meaning.specs.Meaning.{Program}
use Rattle.mcs_top.specs.Check.{check_text}
use Rattle.mcs_top.specs.Outputs.{outputs, contents_after}
use Rattle.mcs_top.specs.Programs.{AreProgramsRead, none, more}
use Rattle.mcs_top.specs.Calls.{WasAskedFor, AReplayReadsTwoFiles, ACheckReadsEachSource, AShowReadsOneFile, whole_reading, done_write}

-- a file within the limit is read to its end
none_left : (limit : ℕ) (bytes file : List ℕ) → bytes ≡ bytes_read limit file → length bytes ≤ limit → length file - length bytes ≡ 0
none_left limit bytes file is short = omega (arith, ap length is, length-take (limit + 1) file, short)

-- one list of calls behind another
asked_then : {a b c : Contents} {calls rest : List StoreCall} → WasAskedFor calls a b → WasAskedFor rest b c → WasAskedFor (calls ++ rest) a c
asked_then {a} {b} {c} {calls} {rest} first second = record {
  files = second.files ∙ first.files;
  calls = second.calls ∙ (ap (λ xs. xs ++ rest) first.calls ∙ append_assoc a.calls calls rest);
}

-- a file within the limit was read
read_asked : (limit : ℕ) (name bytes file : List ℕ) (c : Contents) → bytes ≡ bytes_read limit file → length bytes ≤ limit → WasAskedFor (whole_reading name) c (with_reading name file (length bytes) false c)
read_asked limit name bytes file c is short = record {
  files = refl;
  calls = append_assoc c.calls (Opened name true ∷ []) (Closed (length file - length bytes) false ∷ []) ∙ ap (λ n. c.calls ++ Opened name true ∷ Closed n false ∷ []) (none_left limit bytes file is short);
}

-- writes, one after another
write_asked : (write : Writing) (c : Contents) → WasAskedFor (done_write write ∷ []) c (with_output write.name write.bytes c)
write_asked write c = record { files = refl; calls = refl }

writes_asked : (writes : List Writing) (c : Contents) → WasAskedFor (list_map done_write writes) c (contents_after writes c)
writes_asked [] c = record { files = refl; calls = sym (append-nil c.calls) }
writes_asked (write ∷ writes) c = asked_then (write_asked write c) (writes_asked writes (with_output write.name write.bytes c))

replay_told : (limit : ℕ) (first mid read last : Option Contents) (net_file script_file description script : List ℕ) (writes : List Writing)
    → IfSome first (λ c. (file : List ℕ) × (map.get c.files net_file ≡ Some file) × (description ≡ bytes_read limit file) × (mid ≡ Some (with_reading net_file file (length description) false c)))
    → length description ≤ limit
    → IfSome mid (λ c. (file : List ℕ) × (map.get c.files script_file ≡ Some file) × (script ≡ bytes_read limit file) × (read ≡ Some (with_reading script_file file (length script) false c)))
    → length script ≤ limit → last ≡ option_map (contents_after writes) read
    → IfSome first (λ c. IsSomeAnd last (WasAskedFor (whole_reading net_file ++ (whole_reading script_file ++ list_map done_write writes)) c))
replay_told limit None mid read last net_file script_file description script writes net_read net_short script_read script_short written = tt
replay_told limit (Some c) mid read last net_file script_file description script writes net_read net_short script_read script_short written =
    let told = rw net_read.3 at script_read in
    let net = read_asked limit net_file description net_read.0 c net_read.2 net_short in
    let next = read_asked limit script_file script told.0 (with_reading net_file net_read.0 (length description) false c) told.2 script_short in
    rw (written, told.3) (asked_then net (asked_then next (writes_asked writes _)))

pub replay_calls : AReplayReadsTwoFiles
replay_calls before after net_file script_file verdict h =
    let net_read = h.performed.net_read in
    let done = h.performed.script_done in
    replay_told file_limit before.contents h.performed.between.contents h.read.contents after.contents net_file script_file net_read.description done.script (outputs h.net h.history h.journal) net_read.is_read.contents
    net_read.within_limit done.is_read.contents done.within_limit h.contents

-- calls behind others, where the store shows its calls
some_asked : (last : Option Contents) (a b : Contents) (calls rest : List StoreCall) → WasAskedFor calls a b → IsSomeAnd last (WasAskedFor rest b) → IsSomeAnd last (WasAskedFor (calls ++ rest) a)
some_asked None a b calls rest first second = second
some_asked (Some c) a b calls rest first second = asked_then first second

-- the files of some units were read
programs_asked : (units : List UnitRow) (programs : List Program) (before after : Shown) (c : Contents) → AreProgramsRead units programs before after → before.contents ≡ Some c
    → IsSomeAnd after.contents (WasAskedFor (flat_map (λ unit. whole_reading unit.source) units) c)
programs_asked _ _ before _ c none told = rw told (record { files = refl; calls = sym (append-nil c.calls) })
programs_asked _ _ before after c (more {unit} {program} {units} {programs} between first rest) told =
    let read = rw told at first.is_read.contents in
    let one = read_asked file_limit unit.source first.source read.0 c read.2 first.is_program.few in
    some_asked after.contents c _ (whole_reading unit.source) (flat_map (λ unit. whole_reading unit.source) units) one (programs_asked units programs between after _ rest read.3)

-- and a text was written behind them
written_behind : (read last : Option Contents) (a : Contents) (calls : List StoreCall) (text : List ℕ) → IsSomeAnd read (WasAskedFor calls a) → last ≡ option_map (with_output output_name text) read
    → IsSomeAnd last (WasAskedFor (calls ++ done_write (record { name = output_name; bytes = text }) ∷ []) a)
written_behind None last a calls text h written = absurd h
written_behind (Some c) last a calls text h written = rw written (asked_then h (write_asked (record { name = output_name; bytes = text }) c))

check_told : (first : Option Contents) (mid read last : Shown) (net_file description : List ℕ) (units : List UnitRow) (programs : List Program)
    → IfSome first (λ c. (file : List ℕ) × (map.get c.files net_file ≡ Some file) × (description ≡ bytes_read file_limit file) × (mid.contents ≡ Some (with_reading net_file file (length description) false c)))
    → length description ≤ file_limit → AreProgramsRead units programs mid read → last.contents ≡ option_map (with_output output_name check_text) read.contents
    → IfSome first (λ c. IsSomeAnd last.contents (WasAskedFor (whole_reading net_file ++ (flat_map (λ unit. whole_reading unit.source) units ++ done_write (record { name = output_name; bytes = check_text }) ∷ [])) c))
check_told None mid read last net_file description units programs net_read net_short are_read written = tt
check_told (Some c) mid read last net_file description units programs net_read net_short are_read written =
    let net = read_asked file_limit net_file description net_read.0 c net_read.2 net_short in
    let all = programs_asked units programs mid read _ are_read net_read.3 in
    some_asked last.contents c _ (whole_reading net_file) _ net (written_behind read.contents last.contents _ (flat_map (λ unit. whole_reading unit.source) units) check_text all written)

pub check_calls : ACheckReadsEachSource
check_calls net_file before after h =
    let all = h.checked in
    check_told before.contents all.between h.read after net_file all.net_read.description all.net.units all.programs all.net_read.is_read.contents all.net_read.within_limit all.programs_read h.told.contents

show_told : (limit : ℕ) (first read last : Option Contents) (file bytes text : List ℕ)
    → IfSome first (λ c. (held : List ℕ) × (map.get c.files file ≡ Some held) × (bytes ≡ bytes_read limit held) × (read ≡ Some (with_reading file held (length bytes) false c)))
    → length bytes ≤ limit → last ≡ option_map (with_output output_name text) read
    → IfSome first (λ c. IsSomeAnd last (WasAskedFor (whole_reading file ++ done_write (record { name = output_name; bytes = text }) ∷ []) c))
show_told limit None read last file bytes text is_read short written = tt
show_told limit (Some c) read last file bytes text is_read short written =
    rw (written, is_read.3) (asked_then (read_asked limit file bytes is_read.0 c is_read.2 short) (write_asked (record { name = output_name; bytes = text }) _))

pub show_calls : AShowReadsOneFile
show_calls framing before after file h =
    show_told file_limit before.contents h.read.contents after.contents file h.input.bytes h.text h.input.is_read.contents h.input.shows.ends.0 h.told.contents

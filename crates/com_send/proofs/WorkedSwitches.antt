-- Worked ENABLE OUTPUT and DISABLE OUTPUT, computed by the definition.
use Rattle.std.specs.Prelude.{◌≡◌, true, false, List, [], ◌∷◌, codes, refl}
use Rattle.com_msg.specs.declared.sending.OutMessage.{OutMessage}
use Rattle.com_send.specs.Outgoing.{opening}
use Rattle.com_send.specs.Switching.{switch_output}
use Rattle.com_send.proofs.WorkedSends.{t1, both, one_line, enabled_with, disabled_with, sends_line}

-- a key that is not the password
wrong_key : switch_output (t1 ∷ []) (opening (t1 ∷ []) 1) true (codes "00010000000T1          ")
    (codes "0123456789")
    ≡ (codes "00010000400T1          ", opening (t1 ∷ []) 1)
wrong_key = refl

disabled : switch_output (t1 ∷ []) (opening (t1 ∷ []) 1) false (codes "00010000000T1          ")
    (codes "TPASS")
    ≡ (codes "00010000000T1          ", disabled_with [] ∷ [])
disabled = refl

-- two messages to a disabled destination
first_queued : sends_line (t1 ∷ []) (disabled_with [] ∷ []) (codes "00010001000T1          ")
    (codes "A")
    ≡ (codes "00010001100T1          ", disabled_with (one_line (codes "A") ∷ []) ∷ [])
first_queued = refl

abbrev pub a_and_b : List OutMessage
a_and_b = one_line (codes "A") ∷ one_line (codes "B") ∷ []

second_queued : sends_line (t1 ∷ []) (disabled_with (one_line (codes "A") ∷ []) ∷ [])
    (codes "00010001000T1          ") (codes "B")
    ≡ (codes "00010001100T1          ", disabled_with a_and_b ∷ [])
second_queued = refl

-- they are transmitted in order; the key has trailing spaces
enabled : switch_output (t1 ∷ []) (disabled_with a_and_b ∷ []) true
    (codes "00010000100T1          ") (codes "TPASS     ")
    ≡ (codes "00010000000T1          ", enabled_with a_and_b ∷ [])
enabled = refl

-- the key must be that of each destination that is named
two_passwords : switch_output both (opening both 1) true
    (codes "00020000000T1          0T2          ") (codes "TPASS")
    ≡ (codes "00020000400T1          0T2          ", opening both 1)
two_passwords = refl

-- an unknown destination changes nothing for the others
beside_an_unknown : switch_output both (opening both 1) true
    (codes "00020000000T2          0NOPE        ") (codes "OTHER")
    ≡ (codes "00020000200T2          1NOPE        ", enabled_with [] ∷ enabled_with [] ∷ [])
beside_an_unknown = refl

-- an occurrence that is not counted is not looked at
counted : switch_output both (opening both 1) true (codes "00010000000T2          1NOPE        ")
    (codes "OTHER")
    ≡ (codes "00010000000T2          1NOPE        ", enabled_with [] ∷ enabled_with [] ∷ [])
counted = refl

no_destinations : switch_output (t1 ∷ []) (opening (t1 ∷ []) 1) true
    (codes "00000001000T1          ") (codes "TPASS")
    ≡ (codes "00000001300T1          ", opening (t1 ∷ []) 1)
no_destinations = refl

-- without a known destination no key is asked for
none_known : switch_output (t1 ∷ []) (opening (t1 ∷ []) 1) true (codes "00010000000NOPE        ")
    (codes "ANY")
    ≡ (codes "00010000201NOPE        ", opening (t1 ∷ []) 1)
none_known = refl

-- The keys of a description's tables.
use Rattle.std.specs.Prelude.{ℕ, ◌==◌, List, [], ◌∷◌, codes, if◌then◌else◌}
use Rattle.com_net.specs.declared.keys.Section.{Section}
use Rattle.com_net.specs.declared.keys.Section.TheVariants as section
use Rattle.com_net.specs.declared.keys.Key.{Key}
use Rattle.com_net.specs.declared.keys.Key.TheVariants as key

-- a key as it is written
abbrev pub key_text : Key → List ℕ
key_text key.Version = codes "version"
key_text key.Terminals = codes "terminal"
key_text key.Queues = codes "queue"
key_text key.Units = codes "unit"
key_text key.Name = codes "name"
key_text key.Password = codes "password"
key_text key.Input = codes "input"
key_text key.Framing = codes "framing"
key_text key.Route = codes "route"
key_text key.InputEnabled = codes "input-enabled"
key_text key.OutputEnabled = codes "output-enabled"
key_text key.Children = codes "sub"
key_text key.Choose = codes "choose"
key_text key.Enabled = codes "enabled"
key_text key.Source = codes "source"
key_text key.Schedule = codes "schedule"

-- the keys that a queue may have: one of the top level has a password
abbrev pub queue_keys : ℕ → List Key
queue_keys level =
    if level == 1 then
    key.Name ∷ key.Password ∷ key.Children ∷ key.Choose ∷ key.Enabled ∷ []
    else key.Name ∷ key.Children ∷ key.Choose ∷ key.Enabled ∷ []

-- the keys that a table may have, in order
abbrev pub keys_of : Section → List Key
keys_of section.Top = key.Version ∷ key.Terminals ∷ key.Queues ∷ key.Units ∷ []
keys_of section.Terminal =
    key.Name ∷ key.Password ∷ key.Input ∷ key.Framing ∷ key.Route ∷ key.InputEnabled
    ∷ key.OutputEnabled ∷ []
keys_of (section.Queue level) = queue_keys level
keys_of section.Unit = key.Name ∷ key.Source ∷ key.Schedule ∷ []

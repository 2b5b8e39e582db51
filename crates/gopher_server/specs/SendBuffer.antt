-- How many bytes of a reply the system queues for a client.
use Rattle.std.specs.Prelude.{ℕ, ◌/◌, min, max}

-- 65,536 bytes while the server holds few connections; 64 MiB for all of them together while it
-- holds more; and 8,192 bytes at least
abbrev pub send_buffer_of : ℕ → ℕ
send_buffer_of held = min (max (67_108_864 / max held 1) 8_192) 65_536

-- The worked calls, each by computation.
use mathlib.Core.List.{List, ◌∷◌}
use mathlib.Core.Path.{◌≡◌, refl}
use Prim.Native.Nat.{ℕ}
use lib.ListN.{length}
use Rattle.wire.specs.Digits.{hex_of, value_of, two_at, four_at, unhex, octets_in}
use Rattle.wire.specs.Packet.{xor_from, packet_with, packet, over, size, check_code, packet_text}
use Rattle.wire.specs.Judge.{is_length, ends_in_return, has_check_code, is_message}
use Rattle.messages.specs.Message.{Reply, reply_bytes}
use Rattle.messages.specs.Text.{date_text, schedule_text, request_type, request_text}
use Rattle.messages.specs.Read.{begins_with, is_name, flag_at, mode_at, date_in, parameter_in, power_read_reply_in, power_control_reply_in, date_write_reply_in}
use Rattle.messages.specs.Read.{tag_write_reply_in, numbers_in, schedule_write_reply_in, schedule_enable_reply_in, plain_reply_in, command_reply_in, reply_in}
use Rattle.calendar.specs.Calendar as date
use Rattle.calendar.specs.Calendar.{days_in, is_day, before_year, before_month, weekday_of}
use Rattle.schedule.specs.Numbers as program
use Rattle.schedule.specs.Numbers.{are_zero}
use Rattle.station.specs.Encode as encode
use Rattle.station.specs.Encode.{Encoding, sends, encoding_of}
use Rattle.station.specs.Read as read
use Rattle.station.specs.Read.{PacketReading, reply, reply_size, is_reply_header, is_whole_length, reply_in_message, reply_verdict, read_packet}
use Rattle.station_c.specs.Encode.{destination_of, EncodesForC}
use Rattle.station_c.specs.Read.{reply_kind, numbers_of, read_into, ReadsForC}
use Rattle.station_c.specs.Examples.{at, AllHold, worked}

-- what a contract says of a packet, of a reply and of a refusal

sent : {e : Encoding} {p : List ℕ} → e ≡ sends p → (out : List ℕ) (size : ℕ) → EncodesForC e 0 out (at p out) size (length p)
unfolding over
sent q out size = rw q (record { told = record { result = refl; size = refl }; buffer = refl })

unsent : {e : Encoding} {n : ℕ} → e ≡ encode.refused n → (out : List ℕ) (size : ℕ) → EncodesForC e n out out size size
unsent q out size = rw q (record { told = record { result = refl; size = refl }; buffer = refl })

told : {e : PacketReading} {id : ℕ} {r : Reply} → e ≡ reply id r → (list lent : List ℕ) (count : ℕ)
    → ReadsForC e (reply_kind r) list (at (id ∷ numbers_of r) list) lent (at (reply_bytes r) lent) count (length (reply_bytes r))
unfolding over
told q list lent count = rw q (record { result = refl; numbers = refl; bytes = refl; count = refl })

untold : {e : PacketReading} {n : ℕ} → e ≡ read.refused n → (list lent : List ℕ) (count : ℕ) → ReadsForC e n list list lent lent count count
untold q list lent count = rw q (record { result = refl; numbers = refl; bytes = refl; count = refl })

infixr 10 ◌and◌
◌and◌ : {A B : Type 0} → A → B → A × B
a and b = (a, b)

pub worked-hold : AllHold worked
unfolding AllHold destination_of encoding_of date.is_accepted is_day days_in weekday_of before_year before_month program.is_accepted are_zero request_type request_text date_text schedule_text
    hex_of packet packet_with xor_from read_into read_packet reply_verdict is_reply_header is_whole_length is_length size ends_in_return has_check_code check_code
    reply_in_message is_message packet_text two_at four_at value_of begins_with is_name flag_at mode_at date_in octets_in unhex
    reply_in parameter_in command_reply_in tag_write_reply_in plain_reply_in date_write_reply_in power_read_reply_in power_control_reply_in
    numbers_in schedule_write_reply_in schedule_enable_reply_in reply_size
worked-hold =
    sent refl and sent refl and sent refl and sent refl and sent refl and sent refl and sent refl and sent refl and
    sent refl and sent refl and sent refl and sent refl and sent refl and sent refl and sent refl and sent refl and
    sent refl and sent refl and sent refl and sent refl and sent refl and sent refl and sent refl and sent refl and
    sent refl and unsent refl and unsent refl and unsent refl and unsent refl and unsent refl and unsent refl and unsent refl and
    unsent refl and unsent refl and unsent refl and unsent refl and unsent refl and unsent refl and unsent refl and unsent refl and
    unsent refl and unsent refl and unsent refl and unsent refl and unsent refl and unsent refl and unsent refl and unsent refl and
    unsent refl and unsent refl and unsent refl and unsent refl and unsent refl and unsent refl and unsent refl and unsent refl and
    unsent refl and unsent refl and unsent refl and unsent refl and unsent refl and unsent refl and unsent refl and unsent refl and
    unsent refl and unsent refl and unsent refl and unsent refl and unsent refl and told refl and told refl and told refl and
    told refl and told refl and told refl and told refl and told refl and told refl and told refl and told refl and
    told refl and told refl and told refl and told refl and told refl and told refl and told refl and told refl and
    told refl and told refl and told refl and told refl and told refl and told refl and told refl and told refl and
    untold refl and untold refl and untold refl and untold refl and untold refl and untold refl and untold refl and untold refl and
    untold refl and untold refl and untold refl and untold refl and untold refl and untold refl and untold refl and untold refl and
    untold refl and untold refl and untold refl and untold refl and untold refl and untold refl and untold refl and untold refl and
    untold refl and untold refl and untold refl and untold refl and untold refl and untold refl and untold refl and untold refl and
    untold refl and untold refl and untold refl and untold refl and untold refl and untold refl and untold refl and untold refl and
    untold refl and untold refl and untold refl and untold refl and untold refl and untold refl and untold refl and untold refl and
    untold refl and untold refl and untold refl and untold refl and untold refl and untold refl and untold refl and untold refl and
    untold refl and untold refl and untold refl and untold refl and untold refl and refl and refl and refl and
    refl and refl and refl and refl and refl and refl and refl and refl and
    refl and refl and refl and refl and refl and refl and refl and refl and
    refl and refl and refl and refl and refl and refl and refl and refl and
    tt
